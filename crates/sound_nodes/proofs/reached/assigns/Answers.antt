use Rattle.std.proofs.Common.{ap, sym}
use Rattle.rdl_nodes.proofs.Bodies.{items_all}
use Rattle.sound_nodes.specs.Rows.{assigns}
use Rattle.sound_nodes.proofs.reached.assigns.Goals as goal

pub loop-item-init : goal.loop-item-init
loop-item-init c = sym (ap assigns (items_all c.as_slice-item-items.result.now c.args.body.now c.as_slice-item-items.ensures))
