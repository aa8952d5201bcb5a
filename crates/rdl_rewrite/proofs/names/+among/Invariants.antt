use Rattle.std.proofs.Common.{◌≡◌, ◌+◌, ◌*◌, drop}
use Rattle.std.specs.List.{flat_map, list_any}
use Rattle.rdl_tree.specs.Items.{count}
use Rattle.rdl_tree.proofs.Sizes.{item_count}
use Rattle.rdl_rewrite.specs.Names.{defined_names, is_among}
use Rattle.rdl_rewrite.proofs.Defined.{item_names}
use Rattle.rdl_rewrite.proofs.names.+among.Given as goal

abbrev pub decreases-defines_any : goal.decreases-defines_any
decreases-defines_any l = 2 * count l.body.now + 1

abbrev pub decreases-item_defines_any : goal.decreases-item_defines_any
decreases-item_defines_any l = 2 * item_count l.item.now

abbrev pub invariant-defines_any-items : goal.invariant-defines_any-items
invariant-defines_any-items l = list_any (is_among l.names) (flat_map item_names (drop l.item-index l.item-items)) ≡ list_any (is_among l.names) (defined_names l.body)
