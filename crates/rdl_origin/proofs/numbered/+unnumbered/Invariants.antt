use Rattle.std.proofs.Common.{◌≡◌, ◌+◌, ◌*◌, take, map}
use Rattle.rdl_tree.specs.Items.{count}
use Rattle.rdl_tree.proofs.Sizes.{item_count}
use Rattle.rdl_origin.specs.Numbered.{unnumbered_item}
use Rattle.rdl_origin.proofs.numbered.+unnumbered.Given as goal

abbrev pub decreases-unnumbered : goal.decreases-unnumbered
decreases-unnumbered l = 2 * count l.body.now + 1

abbrev pub decreases-unnumbered_item : goal.decreases-unnumbered_item
decreases-unnumbered_item l = 2 * item_count l.item.now

abbrev pub invariant-unnumbered-items : goal.invariant-unnumbered-items
invariant-unnumbered-items l = l.list.items ≡ map unnumbered_item (take l.item-index l.item-items)
