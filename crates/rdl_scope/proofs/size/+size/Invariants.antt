use Rattle.std.proofs.Common.{take, ◌*◌, ◌+◌}
use Rattle.rdl_tree.specs.Items.{count}
use Rattle.rdl_tree.specs.View.{items_of}
use Rattle.rdl_tree.proofs.Sizes.{item_count}
use Rattle.rdl_scope.specs.Sizes.{IsSizeOf}
use Rattle.rdl_scope.proofs.size.+size.Given as goal

abbrev pub decreases-item_size : goal.decreases-item_size
decreases-item_size l = 2 * item_count l.item.now

abbrev pub decreases-body_size : goal.decreases-body_size
decreases-body_size l = 2 * count l.body.now + 1

abbrev pub invariant-body_size-loop-item : goal.invariant-body_size-loop-item
invariant-body_size-loop-item l = IsSizeOf (items_of (take l.item-index l.item-items)) l.size
