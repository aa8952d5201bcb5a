use Rattle.std.proofs.Common.{◌≡◌, ◌+◌, ◌*◌, ◌<◌, arith}
use Rattle.rdl_tree.specs.Items.{count}
use Rattle.rdl_tree.proofs.Sizes.{item_count}
use Rattle.rdl_origin.proofs.Numbers.{count-item, unnumbered_done}
use Rattle.rdl_origin.proofs.numbered.+unnumbered.Goals as goal

pub unnumbered-unnumbered_item-requires : goal.unnumbered-unnumbered_item-requires
unnumbered-unnumbered_item-requires t c =
    let h = count-item c.as_slice-item-items.result.now c.items.item-index c.item-item.result c.args.body.now c.items-test.true c.item-item.is c.as_slice-item-items.ensures in
    let same : 2 * count c.args.body.now + 1 ≡ t = c.decreases in
    let less : 2 * item_count c.item-item.result < t = omega (arith, h, same) in
    (less, tt)

pub unnumbered-returns : goal.unnumbered-returns
unnumbered-returns t c = unnumbered_done c.as_slice-item-items.result.now c.items.item-index c.args.body.now c.items.list.items c.items-test.false c.as_slice-item-items.ensures c.items.invariant
