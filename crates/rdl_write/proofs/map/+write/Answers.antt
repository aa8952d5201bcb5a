use Rattle.std.proofs.Common.{◌≡◌, ◌+◌, ◌*◌, ◌<◌, arith}
use Rattle.rdl_tree.specs.Items.{count}
use Rattle.rdl_write.proofs.BodyText.{body_done}
use Rattle.rdl_tree.proofs.Sizes.{item_count}
use Rattle.rdl_write.proofs.Counts.{item_count-item}
use Rattle.rdl_write.proofs.map.+write.Goals as goal

pub push_body-push_item-requires : goal.push_body-push_item-requires
push_body-push_item-requires t c =
    let h = item_count-item c.as_slice-item-items.result.now c.items.item-index c.item-item.result c.args.body.now c.items-test.true c.item-item.is c.as_slice-item-items.ensures in
    let same : 3 * count c.args.body.now + 1 ≡ t = c.requires.1.0 in
    let less : 3 * item_count c.item-item.result < t = omega (arith, h, same) in
    (less, tt)

pub push_body-returns : goal.push_body-returns
push_body-returns t c = body_done _ _ c.args.indent.now c.args.body.now c.as_slice-item-items.result.now c.items.item-index c.items.invariant c.items-test.false c.as_slice-item-items.ensures
