-- A dynamic assignment in front of all that differs.
-- own: SystemRDL 2.0 has no edits.
use Rattle.std.specs.Prelude.{◌≡◌, ℕ, ◌<◌, Bool, true, false, length}
use Rattle.rdl_nodes.specs.declared.node.Slot.{Slot}
use Rattle.rdl_seen.specs.Alert.{is_silent}
use Rattle.rdl_seen.specs.Slots as seen
use Rattle.rdl_seen.specs.Slots.{Slots, no_slots, slot, written, dynamic_slot}
use Rattle.rdl_renew.specs.declared.done.Done.{Done}
use Rattle.rdl_renew.specs.Fronts.{front_of}

abbrev pub is_dynamic : seen.Slot → Bool
is_dynamic (dynamic_slot v) = true
is_dynamic s = false

-- the first of these items is a dynamic assignment
abbrev pub is_first_dynamic : Slots → Bool
is_first_dynamic no_slots = false
is_first_dynamic (slot s rest) = is_dynamic s
is_first_dynamic (written w core inside rest) = false

-- the next item is such a one, with this slot, among so many first items, and nothing is told of what stands around their body
pub record IsInFront (d : Done) (front : ℕ) (s : Slot) : Type 0 where
  pub within : length d.slots.items < front
  pub silent : is_silent d.reach.alert ≡ true
  pub dynamic : is_first_dynamic (front_of s) ≡ true
