use Rattle.std.proofs.Common.{◌≡◌, drop}
use Rattle.rdl_tree.specs.View.{items_of}
use Rattle.sound_nodes.specs.Rows.{assigns}
use Rattle.sound_nodes.proofs.reached.assigns.Given as goal

abbrev pub invariant-loop-item : goal.invariant-loop-item
invariant-loop-item l = assigns l.body ≡ assigns (items_of (drop l.item-index l.item-items))
