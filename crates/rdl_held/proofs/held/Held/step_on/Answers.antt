use Rattle.std.proofs.Common.{sym, subst}
use Rattle.rdl_tree.specs.Turned.{kept, turned_items}
use Rattle.rdl_held.specs.HeldMap.{IsStep}
use Rattle.rdl_held.proofs.Turns.{marks_tell}
use Rattle.rdl_held.proofs.held.Held.step_on.Goals as goal

pub step-requires : goal.step-requires
step-requires c =
    let turned = c.args.turned.now in
    subst (λ d. IsStep c.args.self.now c.in-Ok.marks d) (sym c.description.ensures)
    (marks_tell c.args.self.now (kept turned) (turned_items turned) c.in-Ok.marks c.requires c.in-Ok.ensures)
