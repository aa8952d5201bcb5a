use Rattle.std.proofs.Common.{◌≡◌, ◌++◌, ◌+◌, ◌*◌, take, map}
use Rattle.std.specs.List.{flat_map}
use Rattle.rdl_tree.specs.Items.{count}
use Rattle.rdl_tree.proofs.Sizes.{item_count}
use Rattle.rdl_rewrite.proofs.Defined.{item_names}
use Rattle.rdl_rewrite.proofs.names.+defined.Given as goal

abbrev pub decreases-push_defined : goal.decreases-push_defined
decreases-push_defined l = 2 * count l.body.now + 1

abbrev pub decreases-push_item : goal.decreases-push_item
decreases-push_item l = 2 * item_count l.item.now

abbrev pub invariant-push_defined-items : goal.invariant-push_defined-items
invariant-push_defined-items l = map (λ n. n.now) l.names.items ≡ map (λ n. n.now) l.initial.names.items ++ flat_map item_names (take l.item-index l.item-items)
