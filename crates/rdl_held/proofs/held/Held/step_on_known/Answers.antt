use Rattle.std.proofs.Common.{sym, subst}
use Rattle.rdl_tree.specs.Turned.{kept, turned_items}
use Rattle.rdl_held.specs.HeldMap.{IsStep}
use Rattle.rdl_held.proofs.Turns.{marks_tell}
use Rattle.rdl_held.proofs.held.Held.step_on_known.Goals as goal

pub step_known-requires-clause-step : goal.step_known-requires-clause-step
step_known-requires-clause-step c =
    let turned = c.args.turned.now in
    subst (λ d. IsStep c.args.self.now c.in_ok-marks.marks d) (sym c.description.ensures)
    (marks_tell c.args.self.now (kept turned) (turned_items turned) c.in_ok-marks.marks c.requires.turned c.in_ok-marks.ensures)
