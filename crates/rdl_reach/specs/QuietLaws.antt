-- That quiet patches edit no body, and that what takes them back is quiet.
-- own: SystemRDL 2.0 has no edits.
use Rattle.std.specs.Prelude.{◌≡◌, ℕ, false, List, Some}
use Rattle.rdl_tree.specs.Address.{body_at}
use Rattle.rdl_tree.specs.Items.{Items}
use Rattle.rdl_tree.specs.Patch.{AllFit, image, inverses}
use Rattle.rdl_tree.specs.declared.patch.Patch.{Patch}
use Rattle.rdl_marks.specs.Marks.{no_marks}
use Rattle.rdl_marks.specs.Noted.{all_noted}
use Rattle.rdl_reach.specs.EditedBodies.{edits}
use Rattle.rdl_reach.specs.Quiet.{AreQuiet}
use Rattle.rdl_reach.specs.Skeleton.{skeleton}

-- where they fit, and the skeleton of the description stays, they edit none of its bodies
abbrev pub QuietPatchesEditNothing : Type 0
QuietPatchesEditNothing =
    (ps : List Patch) (old : Items) → AllFit ps old → AreQuiet ps old → skeleton (image ps old) ≡ skeleton old → (a : List ℕ) (b : Items) → body_at a (image ps old) ≡ Some b
    → edits (all_noted (inverses ps old) no_marks) old (image ps old) a ≡ false

-- what takes quiet patches back is quiet
abbrev pub QuietPatchesComeBackQuietly : Type 0
QuietPatchesComeBackQuietly = (ps : List Patch) (d : Items) → AllFit ps d → AreQuiet ps d → AreQuiet (inverses ps d) (image ps d)
