use Rattle.std.proofs.Common.{◌≡◌, take, sum_by}
use Rattle.rdl_tree.specs.Weight.{capped}
use Rattle.rdl_tree.specs.ItemWeight.{item_weight}
use Rattle.rdl_tree.proofs.description.+weigh.Given as goal

abbrev pub invariant-Body::weight-loop-item : goal.invariant-Body::weight-loop-item
invariant-Body::weight-loop-item l = l.sum ≡ capped (sum_by item_weight (take l.item-index l.item-items))
