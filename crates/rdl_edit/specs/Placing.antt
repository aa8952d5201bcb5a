-- How many instances a step places: those of the components that it lays out anew, once for each mode.
-- own: SystemRDL 2.0 has no edits.
use Rattle.std.specs.Prelude.{◌≡◌, ◌≤◌, ◌*◌, ℕ, List}
use Rattle.rdl_tree.specs.Items.{Items}
use Rattle.rdl_tree.specs.Patch.{inverses}
use Rattle.rdl_tree.specs.Weight.{capped}
use Rattle.rdl_tree.specs.declared.patch.Patch.{Patch}
use Rattle.rdl_elab.specs.Anew.{instances_at}
use Rattle.rdl_marks.specs.Marks.{Marks, no_marks}
use Rattle.rdl_marks.specs.Noted.{all_noted}
use Rattle.rdl_renew.specs.Placed.{placed_of}
use Rattle.rdl_reach.specs.EditedBodies.{edits}
use Rattle.rdl_reach.specs.Laws.{kept_of}
use Rattle.rdl_reach.specs.Reach.{in_reach}

-- what marks tell of a step along these patches from a description
abbrev pub marks_of : List Patch → Items → Marks
marks_of step old = all_noted (inverses step old) no_marks

-- so many instances the step placed; the count stops at the greatest 64-bit number
abbrev pub HasPlaced : (old : Items) → (step : List Patch) → (new : Items) → ℕ → Type 0
HasPlaced old step new placed = placed ≡ capped (placed_of (marks_of step old) (kept_of old) new (kept_of new))

-- those are at most three for each instance of the components in reach of the bodies that the step edits
abbrev pub IsInReach : (old : Items) → (step : List Patch) → (new : Items) → ℕ → Type 0
IsInReach old step new placed = placed ≤ 3 * instances_at (in_reach (edits (marks_of step old) old new) new) new
