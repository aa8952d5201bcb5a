use Rattle.std.proofs.Common.{◌*◌, ◌<◌, arith}
use Rattle.rdl_tree.proofs.Sizes.{item_count}
use Rattle.rdl_rewrite.specs.Names.{is_among}
use Rattle.rdl_rewrite.proofs.Defined.{count-item, any_defined_first}
use Rattle.rdl_rewrite.proofs.names.+among.Goals as goal

pub defines_any-items-init : goal.defines_any-items-init
defines_any-items-init t c = any_defined_first (is_among c.args.names.now) c.args.body.now c.as_slice-item-items.result.now c.as_slice-item-items.ensures

pub defines_any-item_defines_any-requires : goal.defines_any-item_defines_any-requires
defines_any-item_defines_any-requires t c =
    let h = count-item c.as_slice-item-items.result.now c.items.item-index c.item-item.result c.args.body.now c.items-test.true c.item-item.is c.as_slice-item-items.ensures in
    let less : 2 * item_count c.item-item.result < t = omega (arith, h, c.decreases) in
    (less, tt)
