-- The items of a body that are walked so far, as the code has them.
-- own: how the code goes along a body.
use Rattle.std.specs.Prelude.{List, [], ◌∷◌}
use Rattle.rdl_nodes.specs.declared.node.Slot.{Slot}
use Rattle.rdl_nodes.specs.declared.walk.Walked.{Walked}
use Rattle.rdl_nodes.specs.View.{add, slots_of}
use Rattle.rdl_seen.specs.Node as seen
use Rattle.rdl_seen.specs.Slots.{Slots}

abbrev pub walked_of : Walked → seen.Walked
walked_of w = record { slots = slots_of w.slots.items; instances = w.instances }

-- one more item in front
abbrev pub with_slot : Slot → seen.Walked → seen.Walked
with_slot x w = record { slots = add x w.slots; instances = w.instances }

-- these items in front
abbrev pub slots_onto : List Slot → Slots → Slots
slots_onto [] rest = rest
slots_onto (x ∷ xs) rest = add x (slots_onto xs rest)

abbrev pub behind : List Slot → seen.Walked → seen.Walked
behind xs w = record { slots = slots_onto xs w.slots; instances = w.instances }
