use Rattle.std.proofs.Common.{◌≡◌, drop}
use Rattle.rdl_tree.specs.View.{items_of}
use Rattle.rdl_seen.specs.Values.{own_over, own_values}
use Rattle.rdl_nodes.proofs.field.own_values.Given as goal

abbrev pub invariant-loop-item : goal.invariant-loop-item
invariant-loop-item l = own_values l.body ≡ own_over l.own (items_of (drop l.item-index l.item-items))
