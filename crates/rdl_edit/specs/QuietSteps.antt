-- Steps that change nothing of what layouts take.
-- own: SystemRDL 2.0 has no edits.
use Rattle.std.specs.Prelude.{◌≡◌, List}
use Rattle.rdl_tree.specs.Items.{Items}
use Rattle.rdl_tree.specs.Patch.{image}
use Rattle.rdl_tree.specs.declared.patch.Patch.{Patch}
use Rattle.rdl_reach.specs.Quiet.{AreQuiet}
use Rattle.rdl_reach.specs.Skeleton.{skeleton}

-- its patches are quiet, and all on which layouts depend is as it was
pub record IsQuietStep (step : List Patch) (d : Items) : Type 0 where
  pub quiet : AreQuiet step d
  pub stays : skeleton (image step d) ≡ skeleton d
