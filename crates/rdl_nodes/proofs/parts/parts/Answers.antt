use Rattle.std.proofs.Common.{◌++◌, sym}
use Rattle.rdl_nodes.specs.Parts.{parts_of}
use Rattle.rdl_nodes.specs.View.{slots_of}
use Rattle.rdl_nodes.proofs.Bodies.{items_all}
use Rattle.rdl_nodes.proofs.parts.parts.Goals as goal

pub loop-i-init : goal.loop-i-init
loop-i-init c =
    let all = items_all c.as_slice-item-items.result.now c.args.body.now c.as_slice-item-items.ensures in
    λ i. (sym c.in_ok-parts.ensures.items i) ++ parts_of c.args.defaults.now (sym all i) (slots_of c.args.slots.now)
