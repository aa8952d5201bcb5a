-- What the steps that are kept weigh, and what the edits changed that they take back.
-- own: SystemRDL 2.0 has no edits.
use Rattle.std.specs.Prelude.{ℕ, ◌+◌, ◌*◌, List, [], ◌∷◌, length}
use Rattle.rdl_tree.specs.Patch.{image, inverses}
use Rattle.rdl_tree.specs.PatchWeight.{patches_weight, taken}
use Rattle.rdl_edit.specs.Backs.{Reversal, prior}
use Rattle.rdl_edit.specs.Step.{State}

abbrev pub steps_weight : List Reversal → ℕ
steps_weight [] = 0
steps_weight (step ∷ steps) = patches_weight step.patches + steps_weight steps

-- what was dropped and replaced on the way that this step takes back, and 20 for each of its patches
abbrev pub changed_by : State → Reversal → ℕ
changed_by s step = taken (inverses step.patches s.description) (image step.patches s.description) + 20 * length step.patches

-- of steps that are taken one after another
abbrev pub changed_along : State → List Reversal → ℕ
changed_along s [] = 0
changed_along s (step ∷ steps) = changed_by s step + changed_along (prior s step) steps
