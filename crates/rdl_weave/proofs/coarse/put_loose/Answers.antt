use Rattle.rdl_weave.proofs.Pieces.{loose_more, loose_more_spans}
use Rattle.rdl_weave.proofs.coarse.put_loose.Goals as goal

pub statements-preserved : goal.statements-preserved
statements-preserved c = (
  loose_more _ _ _ _ _ c.args.statements.now c.statements.statement-index c.statement-item.result c.statements.rest.now c.split.result.0.now c.split.result.1.now
      c.statements-test.true c.statement-item.is c.split.ensures.front c.split.ensures.back c.statements.invariant.0 c.in_ok-put_touched.ensures.text,
  loose_more_spans _ _ _ _ _ c.args.statements.now c.statements.statement-index c.statement-item.result c.statements.rest.now c.split.result.0.now c.split.result.1.now
      c.statements-test.true c.statement-item.is c.split.ensures.front c.split.ensures.back c.statements.invariant.1 c.in_ok-put_touched.ensures.spans,
)
