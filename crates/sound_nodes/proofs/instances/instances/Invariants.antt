use Rattle.std.proofs.Common.{◌≡◌, ◌++◌, drop}
use Rattle.rdl_tree.specs.View.{items_of}
use Rattle.rdl_nodes.specs.View.{slots_of}
use Rattle.sound_nodes.specs.Instances.{instances_from}
use Rattle.sound_nodes.proofs.instances.instances.Given as goal

abbrev pub invariant-loop-i : goal.invariant-loop-i
invariant-loop-i l = instances_from 0 l.body (slots_of l.slots) ≡ l.instances.items ++ instances_from l.i (items_of (drop l.i l.item-items)) (slots_of (drop l.i l.slots))
