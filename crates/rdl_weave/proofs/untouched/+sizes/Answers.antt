use Rattle.std.proofs.Common.{◌*◌, ◌<◌, arith}
use Rattle.rdl_tree.proofs.Sizes.{item_count}
use Rattle.rdl_weave.proofs.Sized.{count-item, sizes_done}
use Rattle.rdl_weave.proofs.untouched.+sizes.Goals as goal

pub push_sizes-push_item_sizes-requires : goal.push_sizes-push_item_sizes-requires
push_sizes-push_item_sizes-requires t c =
    let h = count-item c.as_slice-item-items.result.now c.items.item-index c.item-item.result c.args.body.now c.items-test.true c.item-item.is c.as_slice-item-items.ensures in
    let less : 2 * item_count c.item-item.result < t = omega (arith, h, c.decreases) in
    (less, tt)

pub push_sizes-returns : goal.push_sizes-returns
push_sizes-returns t c = sizes_done _ _ c.args.body.now c.as_slice-item-items.result.now c.items.item-index c.items.invariant c.items-test.false c.as_slice-item-items.ensures
