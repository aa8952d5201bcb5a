use Rattle.std.proofs.Common.{◌≡◌, ◌+◌, ◌*◌, length, take, drop}
use Rattle.rdl_tree.proofs.Sizes.{item_count}
use Rattle.rdl_tree.specs.Items.{count}
use Rattle.rdl_tree.specs.View.{items_of}
use Rattle.rdl_seen.specs.Node.{walked, body_of}
use Rattle.rdl_nodes.specs.HeldAround.{around_of}
use Rattle.rdl_nodes.specs.HeldWalked.{behind}
use Rattle.rdl_nodes.proofs.walk.+walk.Given as goal

abbrev pub decreases-walk : goal.decreases-walk
decreases-walk g l = 4 * count l.body.now + 1

abbrev pub decreases-walk_component : goal.decreases-walk_component
decreases-walk_component g l = 4 * count l.component.now.body + 2

abbrev pub decreases-anonymous : goal.decreases-anonymous
decreases-anonymous g l = 4 * count l.component.now.body + 3

abbrev pub decreases-walk_item : goal.decreases-walk_item
decreases-walk_item g l = 4 * item_count l.item.now

abbrev pub invariant-walk-loop-item : goal.invariant-walk-loop-item
invariant-walk-loop-item g l = record {
  walked : body_of g.L.Lays.laying (around_of l.fn.around) l.body ≡ behind l.slots.items (walked g.L.Lays.laying (around_of l.around) l.instances (items_of (drop l.item-index l.item-items)));
  types : take (length l.fn.around.types.list.items) l.around.types.list.items ≡ l.fn.around.types.list.items;
}
