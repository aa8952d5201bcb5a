use Rattle.std.proofs.Common.{◌≡◌, ◌++◌, ◌+◌, ◌*◌, take}
use Rattle.std.specs.List.{flat_map}
use Rattle.rdl_tree.specs.Items.{count}
use Rattle.rdl_tree.proofs.Sizes.{item_count}
use Rattle.rdl_weave.proofs.Sized.{item_sizes}
use Rattle.rdl_weave.proofs.untouched.+sizes.Given as goal

abbrev pub decreases-push_sizes : goal.decreases-push_sizes
decreases-push_sizes l = 2 * count l.body.now + 1

abbrev pub decreases-push_item_sizes : goal.decreases-push_item_sizes
decreases-push_item_sizes l = 2 * item_count l.item.now

abbrev pub invariant-push_sizes-items : goal.invariant-push_sizes-items
invariant-push_sizes-items l = l.sizes.items ≡ l.initial.sizes.items ++ flat_map item_sizes (take l.item-index l.item-items)
