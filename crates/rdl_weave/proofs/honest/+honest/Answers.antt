use Rattle.std.proofs.Common.{◌+◌, ◌*◌, ◌<◌, arith, refl}
use Rattle.rdl_weave.proofs.Kept.{inside_count, count-statement, keeps-begun, keeps-more}
use Rattle.rdl_weave.proofs.honest.+honest.Goals as goal

pub keeps-statements-init : goal.keeps-statements-init
keeps-statements-init t c = keeps-begun _ _ _ c.as_slice-statement-items.result.now c.args.statements.now c.args.origins.now c.as_slice-statement-items.ensures

pub keeps-keeps_statement-requires : goal.keeps-keeps_statement-requires
keeps-keeps_statement-requires t c =
    let h = count-statement c.as_slice-statement-items.result.now c.statements.statement-index c.statement-item.result c.args.statements.now c.statements-test.true c.statement-item.is c.as_slice-statement-items.ensures in
    let less : 4 * inside_count c.statement-item.result.inside + 3 < t = omega (arith, h, c.decreases) in
    (less, tt)

pub keeps-statements-preserved : goal.keeps-statements-preserved
keeps-statements-preserved t c =
    λ rest. c.statements.invariant
    (keeps-more _ _ _ c.as_slice-statement-items.result.now c.statements.statement-index c.statement-item.result _ c.statements.rest.now c.split.result.0.now c.split.result.1.now
    c.statements-test.true c.statement-item.is c.split.ensures.front c.split.ensures.back (c.if-not-keeps_statement.ensures refl) rest)
