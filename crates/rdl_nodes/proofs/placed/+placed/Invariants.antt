-- The measure of what is kept of a component, and the sum over its items.
use Rattle.std.proofs.Common.{◌≡◌, ◌+◌, ◌*◌, take}
use Rattle.std.specs.Prelude.{sum_by}
use Rattle.rdl_tree.specs.Weight.{capped}
use Rattle.rdl_nodes.specs.View.{add, slots_of, slots_count}
use Rattle.rdl_seen.specs.Slots.{no_slots}
use Rattle.rdl_nodes.proofs.PlacedSlots.{one_placed}
use Rattle.rdl_nodes.proofs.placed.+placed.Given as goal

abbrev pub decreases-all_placed : goal.decreases-all_placed
decreases-all_placed l = 3 * slots_count (slots_of l.slots.now) + 1

abbrev pub decreases-node_placed : goal.decreases-node_placed
decreases-node_placed l = 3 * slots_count l.node.now.slots + 2

abbrev pub decreases-slot_placed : goal.decreases-slot_placed
decreases-slot_placed l = 3 * slots_count (add l.slot.now no_slots)

abbrev pub invariant-all_placed-loop-slot : goal.invariant-all_placed-loop-slot
invariant-all_placed-loop-slot l = l.placed ≡ capped (sum_by one_placed (take l.slot-index l.slots))
