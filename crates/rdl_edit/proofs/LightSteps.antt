-- Steps that are kept weigh at most what the edits changed that they take back.
use Rattle.std.proofs.Common.{◌≤◌, List, [], ◌∷◌, ap, arith}
use Rattle.journal_core.specs.Along.{FitInTurn}
use Rattle.rdl_tree.specs.Patch.{image, inverses}
use Rattle.rdl_tree.specs.PatchWeight.{patches_weight}
use Rattle.rdl_tree.proofs.Nesting.{AllFit-inverses}
use Rattle.rdl_tree.proofs.Patching.{inverses-inverses, length-inverses}
use Rattle.rdl_tree.proofs.PatchWeights.{weight-inverses}
use Rattle.rdl_edit.specs.Backs.{Reversal, prior, Fits}
use Rattle.rdl_edit.specs.Step.{State, HasRows}
use Rattle.rdl_edit.specs.Weights.{steps_weight, changed_by, changed_along}
use Rattle.rdl_edit.proofs.EditsLead.{rows-deep}

step-light : (s : State) (step : Reversal) → HasRows s → Fits s step → patches_weight step.patches ≤ changed_by s step
step-light s step rows f =
    let d = s.description in
    let ps = step.patches in
    let on = inverses ps d in
    let there = image ps d in
    let light = weight-inverses on there (AllFit-inverses ps d f.applicable (rows-deep s rows)) (rows-deep (prior s step) f.has_rows) in
    omega (arith, light, ap patches_weight (inverses-inverses ps d f.applicable), length-inverses ps d f.applicable)

pub steps-light : (s : State) (steps : List Reversal) → HasRows s → FitInTurn prior Fits s steps → steps_weight steps ≤ changed_along s steps
steps-light s [] rows f = omega arith
steps-light s (step ∷ steps) rows f =
    omega (arith, step-light s step rows f.0, steps-light (prior s step) steps f.0.has_rows f.1)
