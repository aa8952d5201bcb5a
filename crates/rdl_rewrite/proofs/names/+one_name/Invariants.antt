use Rattle.std.proofs.Common.{◌≡◌, ◌+◌, ◌*◌, drop}
use Rattle.std.specs.List.{flat_map}
use Rattle.rdl_tree.specs.Items.{count}
use Rattle.rdl_tree.proofs.Sizes.{item_count}
use Rattle.rdl_rewrite.specs.Names.{defined_names, has_name}
use Rattle.rdl_rewrite.proofs.Defined.{item_names}
use Rattle.rdl_rewrite.proofs.names.+one_name.Given as goal

abbrev pub decreases-is_defined : goal.decreases-is_defined
decreases-is_defined l = 2 * count l.body.now + 1

abbrev pub decreases-item_defines : goal.decreases-item_defines
decreases-item_defines l = 2 * item_count l.item.now

abbrev pub invariant-is_defined-items : goal.invariant-is_defined-items
invariant-is_defined-items l = has_name l.name (flat_map item_names (drop l.item-index l.item-items)) ≡ has_name l.name (defined_names l.body)
