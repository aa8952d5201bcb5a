use Rattle.std.proofs.Common.{◌*◌, ◌<◌, arith}
use Rattle.rdl_tree.proofs.Sizes.{item_count}
use Rattle.rdl_weave.proofs.Sized.{count-item}
use Rattle.rdl_weave.proofs.spell.+flat.Goals as goal

pub push_flat_body-push_flat-requires : goal.push_flat_body-push_flat-requires
push_flat_body-push_flat-requires t c =
    let h = count-item c.as_slice-item-items.result.now c.items.item-index c.item-item.result (c.args.component.now).body c.items-test.true c.item-item.is c.as_slice-item-items.ensures in
    let less : 2 * item_count c.item-item.result < t = omega (arith, h, c.decreases) in
    (less, tt)
