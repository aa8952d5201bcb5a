use Rattle.std.proofs.Common.{◌≡◌, take, sum_by}
use Rattle.rdl_tree.specs.Weight.{capped}
use Rattle.rdl_tree.proofs.Sizes.{item_count}
use Rattle.rdl_tree.proofs.description.+count.Given as goal

abbrev pub invariant-Body::count-loop-item : goal.invariant-Body::count-loop-item
invariant-Body::count-loop-item l = l.sum ≡ capped (sum_by item_count (take l.item-index l.item-items))
