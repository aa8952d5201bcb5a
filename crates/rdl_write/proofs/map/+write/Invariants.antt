use Rattle.std.proofs.Common.{◌≡◌, ◌++◌, ◌+◌, ◌*◌, take, string_bytes}
use Rattle.std.specs.List.{flat_map}
use Rattle.rdl_tree.specs.Items.{count}
use Rattle.rdl_tree.proofs.Sizes.{item_count}
use Rattle.rdl_write.specs.ItemText.{item_text}
use Rattle.rdl_write.proofs.map.+write.Given as goal

abbrev pub decreases-push_body : goal.decreases-push_body
decreases-push_body l = 3 * count l.body.now + 1

abbrev pub decreases-push_inner : goal.decreases-push_inner
decreases-push_inner l = 3 * count l.body.now + 2

abbrev pub decreases-push_item : goal.decreases-push_item
decreases-push_item l = 3 * item_count l.item.now

abbrev pub invariant-push_body-items : goal.invariant-push_body-items
invariant-push_body-items l = string_bytes l.text ≡ string_bytes l.initial.text ++ flat_map (item_text l.indent) (take l.item-index l.item-items)
