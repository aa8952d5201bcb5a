use Rattle.std.proofs.Common.{sym}
use Rattle.rdl_seen.specs.Values.{own_over}
use Rattle.rdl_nodes.proofs.Bodies.{items_all}
use Rattle.rdl_nodes.proofs.field.own_values.Goals as goal

pub loop-item-init : goal.loop-item-init
loop-item-init c =
    let all = items_all c.as_slice-item-items.result.now c.args.body.now c.as_slice-item-items.ensures in
    λ i. own_over (sym c.none-own.ensures i) (sym all i)
