use Rattle.std.proofs.Common.{◌*◌, ◌<◌, arith}
use Rattle.std.specs.Prelude.{bytes_eq}
use Rattle.rdl_tree.proofs.Sizes.{item_count}
use Rattle.rdl_rewrite.proofs.Defined.{count-item, any_defined_first}
use Rattle.rdl_rewrite.proofs.names.+one_name.Goals as goal

pub is_defined-items-init : goal.is_defined-items-init
is_defined-items-init t c = any_defined_first (λ n. bytes_eq n c.args.name.now) c.args.body.now c.as_slice-item-items.result.now c.as_slice-item-items.ensures

pub is_defined-item_defines-requires : goal.is_defined-item_defines-requires
is_defined-item_defines-requires t c =
    let h = count-item c.as_slice-item-items.result.now c.items.item-index c.item-item.result c.args.body.now c.items-test.true c.item-item.is c.as_slice-item-items.ensures in
    let less : 2 * item_count c.item-item.result < t = omega (arith, h, c.decreases) in
    (less, tt)
