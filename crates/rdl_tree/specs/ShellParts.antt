-- What a contract sees of the shell of an instance: its name, and the parts around it, which mostly are none.
-- SystemRDL 2.0, clause 5, instantiating components.
use Rattle.std.specs.Prelude.{ℕ, List, [], Option, None, Some}
use Rattle.rdl_tree.specs.declared.shell.Outside.{Outside}
use Rattle.rdl_tree.specs.declared.shell.Outside.TheVariants.{Unsaid}
use Rattle.rdl_tree.specs.declared.shell.ShellParts.{ShellParts}

pub record Shell : Type 0 where
  pub name : List ℕ
  pub outside : Outside
  pub dims : List ℕ
  pub range : Option (ℕ × ℕ)
  pub reset : Option ℕ
  pub address : Option ℕ
  pub stride : Option ℕ
  pub align : Option ℕ

-- no part
abbrev pub no_parts : ShellParts
no_parts = record { outside = Unsaid; dims = []; range = None; reset = None; address = None; stride = None; align = None }

-- the shell of this name with these parts
abbrev pub with_parts : List ℕ → ShellParts → Shell
with_parts n p = record { name = n; outside = p.outside; dims = p.dims; range = p.range; reset = p.reset; address = p.address; stride = p.stride; align = p.align }

-- the shell of this name with the parts that are held
abbrev pub held : List ℕ → Option ShellParts → Shell
held n None = with_parts n no_parts
held n (Some p) = with_parts n p
