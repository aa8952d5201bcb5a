use Rattle.std.proofs.Common.{◌*◌, ◌<◌, length, refl, rules, arith}
use Rattle.std.proofs.lemmas.Option.{slice_get_read}
use Rattle.rdl_nodes.specs.View.{add, slots_count}
use Rattle.rdl_nodes.proofs.PlacedSlots.{count_within, placed_done}
use Rattle.rdl_seen.specs.Slots.{no_slots}
use Rattle.rdl_nodes.proofs.placed.+placed.Goals as goal

pub all_placed-slot_placed-requires : goal.all_placed-slot_placed-requires
all_placed-slot_placed-requires t c =
    let xs = c.args.slots.now in
    let i = c.loop-slot.slot-index in
    let x = c.slot-item.result in
    let few = count_within xs i x (slice_get_read xs (length xs) i x refl c.loop-slot-test.true c.slot-item.is) in
    let less : 3 * slots_count (add x no_slots) < t = omega (arith, c.decreases, few) in
    search (rules, less)

pub all_placed-returns : goal.all_placed-returns
all_placed-returns t c = placed_done c.loop-slot.placed c.loop-slot.slot-index c.args.slots.now c.loop-slot.invariant c.loop-slot-test.false
