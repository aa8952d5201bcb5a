use Rattle.std.proofs.Common.{ap, arith}
use Rattle.rdl_seen.specs.Contents.{items_weight}
use Rattle.rdl_nodes.proofs.Bodies.{items_all}
use Rattle.rdl_nodes.proofs.field.own_weight.Goals as goal

pub loop-item-init : goal.loop-item-init
loop-item-init c =
    let all = items_all c.as_slice-item-items.result.now c.args.body.now c.as_slice-item-items.ensures in
    omega (arith, ap items_weight all)
