use Rattle.std.proofs.Common.{◌*◌, ◌<◌, arith}
use Rattle.rdl_tree.proofs.Sizes.{item_count}
use Rattle.rdl_weave.proofs.Sized.{count-item}
use Rattle.rdl_weave.proofs.spell.+lines.Goals as goal

pub push_body-push_statement-requires : goal.push_body-push_statement-requires
push_body-push_statement-requires t c =
    let h = count-item c.as_slice-item-items.result.now c.items.item-index c.item-item.result (c.args.component.now).body c.items-test.true c.item-item.is c.as_slice-item-items.ensures in
    let less : 2 * item_count c.item-item.result < t = omega (arith, h, c.requires) in
    (less, tt)
