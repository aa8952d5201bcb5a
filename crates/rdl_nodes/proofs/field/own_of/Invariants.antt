use Rattle.std.proofs.Common.{◌≡◌, ◌+◌, drop}
use Rattle.rdl_tree.specs.View.{items_of}
use Rattle.rdl_tree.specs.Weight.{capped}
use Rattle.rdl_seen.specs.Contents.{items_weight}
use Rattle.rdl_seen.specs.Values.{own_over, own_values}
use Rattle.rdl_nodes.proofs.field.own_of.Given as goal

abbrev pub invariant-loop-item : goal.invariant-loop-item
invariant-loop-item l = record {
  values : own_values l.body ≡ own_over l.values (items_of (drop l.item-index l.item-items));
  weight : capped (items_weight l.body) ≡ capped (l.weight + items_weight (items_of (drop l.item-index l.item-items)));
}
