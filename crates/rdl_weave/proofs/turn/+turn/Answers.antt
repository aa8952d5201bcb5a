use Rattle.std.proofs.Common.{◌+◌, ◌*◌, ◌<◌, arith, refl}
use Rattle.rdl_weave.proofs.Kept.{inside_count, count-statement}
use Rattle.rdl_weave.proofs.Turning.{inside_begun, inside_more}
use Rattle.rdl_weave.proofs.turn.+turn.Goals as goal

pub keeps_inside-statements-init : goal.keeps_inside-statements-init
keeps_inside-statements-init t c = inside_begun _ _ _ c.as_slice-statement-items.result.now c.args.statements.now c.args.origins.now c.as_slice-statement-items.ensures

pub keeps_inside-keeps_inside_one-requires : goal.keeps_inside-keeps_inside_one-requires
keeps_inside-keeps_inside_one-requires t c =
    let h = count-statement c.as_slice-statement-items.result.now c.statements.statement-index c.statement-item.result c.args.statements.now c.statements-test.true c.statement-item.is c.as_slice-statement-items.ensures in
    let less : 4 * inside_count c.statement-item.result.inside + 3 < t = omega (arith, h, c.decreases) in
    (less, tt)

pub keeps_inside-statements-preserved : goal.keeps_inside-statements-preserved
keeps_inside-statements-preserved t c =
    λ rest. c.statements.invariant
    (inside_more _ _ _ c.as_slice-statement-items.result.now c.statements.statement-index c.statement-item.result _ c.statements.rest.now c.split.result.0.now c.split.result.1.now
    c.statements-test.true c.statement-item.is c.split.ensures.front c.split.ensures.back (c.if-not-keeps_inside_one.ensures refl) rest)
