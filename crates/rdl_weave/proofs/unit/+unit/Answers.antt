use Rattle.std.proofs.Common.{◌<◌, arith, ap}
use Rattle.rdl_source.specs.Laid.{count}
use Rattle.rdl_weave.proofs.Kept.{inside_count, count-statement}
use Rattle.rdl_weave.proofs.unit.+unit.Goals as goal

pub unit_in-requires : goal.unit_in-requires
unit_in-requires t c =
    let h = count-statement c.as_slice-statement-items.result.now c.statements.statement-index c.statement-item.result c.args.statements.now c.statements-test.true c.statement-item.is c.as_slice-statement-items.ensures in
    let less : count c.in-Some.inner.body < t = omega (arith, h, ap inside_count c.in-Some.is, c.decreases) in
    (less, tt)
