use Rattle.std.proofs.Common.{◌*◌, ◌<◌, arith}
use Rattle.rdl_tree.proofs.Sizes.{item_count}
use Rattle.rdl_rewrite.proofs.Defined.{count-item, defined_done}
use Rattle.rdl_rewrite.proofs.names.+defined.Goals as goal

pub push_defined-push_item-requires : goal.push_defined-push_item-requires
push_defined-push_item-requires t c =
    let h = count-item c.as_slice-item-items.result.now c.items.item-index c.item-item.result c.args.body.now c.items-test.true c.item-item.is c.as_slice-item-items.ensures in
    let less : 2 * item_count c.item-item.result < t = omega (arith, h, c.decreases) in
    (less, tt)

pub push_defined-returns : goal.push_defined-returns
push_defined-returns t c = defined_done _ _ c.args.body.now c.as_slice-item-items.result.now c.items.item-index c.items.invariant c.items-test.false c.as_slice-item-items.ensures
