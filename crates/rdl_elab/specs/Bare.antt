-- Instances that say nothing but their names.
-- own: SystemRDL 2.0 lets an instance say what it likes; most say nothing, and needn't be looked at again.
use Rattle.std.specs.Prelude.{◌≡◌, [], None}
use Rattle.rdl_tree.specs.declared.shell.Shell.{Shell}

-- nothing on which a layout or a row depends, but for the name
pub record IsBare (s : Shell) : Type 0 where
  pub dims : s.dims ≡ []
  pub range : s.range ≡ None
  pub reset : s.reset ≡ None
  pub address : s.address ≡ None
  pub stride : s.stride ≡ None
  pub align : s.align ≡ None
