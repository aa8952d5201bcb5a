-- The slots of a body in a list, each by itself.
-- own: how the code holds slots.
use Rattle.std.specs.Prelude.{◌≡◌, ℕ, List, map, slice_get}
use Rattle.rdl_nodes.specs.declared.node.Slot.{Slot}
use Rattle.rdl_nodes.specs.View.{add, slots_of}
use Rattle.rdl_seen.specs.OneByOne.{slot_at}
use Rattle.rdl_seen.specs.Slots.{Slots, no_slots}

abbrev pub front_of : Slot → Slots
front_of s = add s no_slots

abbrev pub fronts : List Slot → List Slots
fronts xs = map front_of xs

-- the slot of a number is that of the list
abbrev pub FrontsAreSlots : Type 0
FrontsAreSlots = (xs : List Slot) (i : ℕ) → slot_at i (slots_of xs) ≡ slice_get (fronts xs) i
