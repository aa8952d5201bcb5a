-- One level of what is kept of a component as a list, in which what is kept of each component inside is already seen.
-- own: how the code holds nodes.
use Rattle.std.specs.Prelude.{ℕ, ◌+◌, List, [], ◌∷◌, option_map}
use Rattle.rdl_nodes.specs.declared.node.Slot.{Slot}
use Rattle.rdl_nodes.specs.declared.node.Slot.TheVariants.{Own, Default, Dynamic, Field, Named, Define, Part}
use Rattle.rdl_seen.specs.Slots as seen

-- the item, and then these
abbrev pub add : Slot → seen.Slots → seen.Slots
add Own rest = seen.slot seen.own_slot rest
add (Default p) rest = seen.slot (seen.default_slot p) rest
add (Dynamic v) rest = seen.slot (seen.dynamic_slot v) rest
add (Field f) rest = seen.slot (seen.field_slot f) rest
add (Named class s) rest = seen.slot (seen.named_slot class (option_map (λ r. r.value) s)) rest
add (Define class s n) rest = seen.written (seen.type_slot class) (record n.value.core { seen = s.value }) n.value.slots rest
add (Part n) rest = seen.written seen.part_slot n.value.core n.value.slots rest

abbrev pub slots_of : List Slot → seen.Slots
slots_of [] = seen.no_slots
slots_of (x ∷ xs) = add x (slots_of xs)

-- how many items there are, those inside included
abbrev pub slots_count : seen.Slots → ℕ
slots_count seen.no_slots = 0
slots_count (seen.slot s rest) = slots_count rest + 1
slots_count (seen.written w c inside rest) = slots_count inside + 1 + slots_count rest
