use Rattle.std.proofs.Common.{◌≡◌, ◌++◌, drop}
use Rattle.rdl_tree.specs.View.{items_of}
use Rattle.rdl_nodes.specs.Parts.{parts_of}
use Rattle.rdl_nodes.specs.View.{slots_of}
use Rattle.rdl_nodes.proofs.parts.parts.Given as goal

abbrev pub invariant-loop-i : goal.invariant-loop-i
invariant-loop-i l = parts_of l.fn.defaults l.body (slots_of l.slots) ≡ l.parts.items ++ parts_of l.defaults (items_of (drop l.i l.item-items)) (slots_of (drop l.i l.slots))
