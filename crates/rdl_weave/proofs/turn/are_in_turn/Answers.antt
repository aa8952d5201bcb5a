use Rattle.rdl_weave.proofs.Turning.{turn_begun, turn_more}
use Rattle.rdl_weave.proofs.turn.are_in_turn.Goals as goal

pub statements-init : goal.statements-init
statements-init c = turn_begun _ _ _ c.as_slice-statement-items.result.now c.args.statements.now c.args.origins.now c.as_slice-statement-items.ensures

pub statements-preserved : goal.statements-preserved
statements-preserved c =
    λ rest. c.statements.invariant
    (turn_more _ _ _ c.as_slice-statement-items.result.now c.statements.statement-index c.statement-item.result _ c.statements.rest.now c.split.result.0.now c.split.result.1.now c.statements.at c.in-Some.end
    c.statements-test.true c.statement-item.is c.split.ensures.front c.split.ensures.back c.in-Some.ensures rest)
