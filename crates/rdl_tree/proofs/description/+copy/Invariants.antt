use Rattle.std.proofs.Common.{◌≡◌, take}
use Rattle.rdl_tree.proofs.description.+copy.Given as goal

abbrev pub invariant-Body::try_copy-loop-item : goal.invariant-Body::try_copy-loop-item
invariant-Body::try_copy-loop-item l = l.items.items ≡ take l.item-index l.item-items
