use Rattle.std.proofs.Common.{◌≡◌, drop}
use Rattle.rdl_tree.specs.View.{items_of}
use Rattle.rdl_seen.specs.Fields.{field_takes}
use Rattle.rdl_nodes.specs.View.{slots_of}
use Rattle.rdl_nodes.proofs.fields.field_takes.Given as goal

abbrev pub invariant-loop-i : goal.invariant-loop-i
invariant-loop-i l = l.takes ≡ field_takes (items_of (drop l.i l.items)) (slots_of (drop l.i l.slots))
