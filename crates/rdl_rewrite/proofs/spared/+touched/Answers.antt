use Rattle.std.proofs.Common.{◌*◌, ◌+◌, ◌<◌, option_copied, sym, arith}
use Rattle.rdl_tree.specs.Items.{count}
use Rattle.rdl_tree.proofs.Sizes.{item_count}
use Rattle.rdl_rewrite.specs.Touched.{may_touch}
use Rattle.rdl_rewrite.proofs.Defined.{count-item}
use Rattle.rdl_rewrite.proofs.Located.{count-own}
use Rattle.rdl_rewrite.proofs.Touched.{inside_first, inside_own, inside_itself}
use Rattle.rdl_rewrite.proofs.spared.+touched.Goals as goal

pub is_touched-items-init : goal.is_touched-items-init
is_touched-items-init t c =
    inside_first (may_touch (option_copied c.args.sweep.now.taken) (option_copied c.args.sweep.now.holder)) c.args.body.now c.as_slice-found-items.result.now c.as_slice-found-items.ensures

pub is_touched-is_item_touched-requires : goal.is_touched-is_item_touched-requires
is_touched-is_item_touched-requires t c =
    let h = count-item c.as_slice-found-items.result.now c.items.found-index c.found-item.result c.args.body.now c.items-test.true c.found-item.is c.as_slice-found-items.ensures in
    let less : 2 * item_count c.found-item.result < t = omega (arith, h, c.decreases) in
    (less, tt)

pub is_item_touched-is_touched-requires : goal.is_item_touched-is_touched-requires
is_item_touched-is_touched-requires t c =
    let h = count-own c.args.found.now c.in-Some.body.now (sym c.in-Some.ensures) in
    let less : 2 * count c.in-Some.body.now + 1 < t = omega (arith, h, c.decreases) in
    (less, tt)

pub is_item_touched-returns-in-Some : goal.is_item_touched-returns-in-Some
is_item_touched-returns-in-Some t c = inside_own (may_touch (option_copied c.args.sweep.now.taken) (option_copied c.args.sweep.now.holder)) c.args.found.now c.in-Some.body.now _ (sym c.in-Some.ensures) c.is_touched.ensures

pub is_item_touched-returns-in-None : goal.is_item_touched-returns-in-None
is_item_touched-returns-in-None t c = inside_itself (may_touch (option_copied c.args.sweep.now.taken) (option_copied c.args.sweep.now.holder)) c.args.found.now _ (sym c.in-None.ensures) c.may_touch.ensures
