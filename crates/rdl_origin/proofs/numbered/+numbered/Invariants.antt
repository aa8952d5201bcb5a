use Rattle.std.proofs.Common.{◌+◌, ◌*◌}
use Rattle.rdl_tree.specs.Items.{count}
use Rattle.rdl_tree.proofs.Sizes.{item_count}
use Rattle.rdl_origin.proofs.Numbers.{IsNumberedTo}
use Rattle.rdl_origin.proofs.numbered.+numbered.Given as goal

abbrev pub decreases-numbered : goal.decreases-numbered
decreases-numbered l = 2 * count l.body.now + 1

abbrev pub decreases-numbered_item : goal.decreases-numbered_item
decreases-numbered_item l = 2 * item_count l.item.now

abbrev pub invariant-numbered-items : goal.invariant-numbered-items
invariant-numbered-items l = IsNumberedTo l.initial.next l.item-items l.item-index l.list.items l.next
