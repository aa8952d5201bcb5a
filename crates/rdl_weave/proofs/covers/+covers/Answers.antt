use Rattle.std.proofs.Common.{◌+◌, ◌*◌, ◌<◌, arith}
use Rattle.rdl_weave.proofs.Covering.{covers_begun}
use Rattle.rdl_weave.proofs.Kept.{inside_count, count-statement}
use Rattle.rdl_weave.proofs.covers.+covers.Goals as goal

pub covers-statements-init : goal.covers-statements-init
covers-statements-init t c = covers_begun _ _ c.as_slice-statement-items.result.now c.args.statements.now c.args.origins.now c.as_slice-statement-items.ensures

pub covers-covers_statement-requires : goal.covers-covers_statement-requires
covers-covers_statement-requires t c =
    let h = count-statement c.as_slice-statement-items.result.now c.statements.statement-index c.statement-item.result c.args.statements.now c.statements-test.true c.statement-item.is c.as_slice-statement-items.ensures in
    let less : 4 * inside_count c.statement-item.result.inside + 3 < t = omega (arith, h, c.decreases) in
    (less, tt)
