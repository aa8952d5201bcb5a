-- The slots of a body in a list, each by itself.
use Rattle.std.proofs.Common.{◌≡◌, ℕ, zero, suc, List, [], ◌∷◌, Some, refl, ap, ◌∙◌}
use Rattle.std.specs.Prelude.{slice_get}
use Rattle.rdl_nodes.specs.declared.node.Slot.{Slot}
use Rattle.rdl_nodes.specs.declared.node.Slot.TheVariants.{Own, Default, Dynamic, Field, Named, Define, Part}
use Rattle.rdl_nodes.specs.View.{add, slots_of}
use Rattle.rdl_seen.specs.OneByOne.{slot_at}
use Rattle.rdl_seen.specs.Slots.{Slots}
use Rattle.rdl_renew.specs.Fronts.{front_of, fronts, FrontsAreSlots}

pub first_slot : (s : Slot) (rest : Slots) → slot_at 0 (add s rest) ≡ Some (front_of s)
first_slot Own rest = refl
first_slot (Default p) rest = refl
first_slot (Dynamic v) rest = refl
first_slot (Field f) rest = refl
first_slot (Named class s) rest = refl
first_slot (Define class s n) rest = refl
first_slot (Part n) rest = refl

pub later_slot : (s : Slot) (rest : Slots) (i : ℕ) → slot_at (suc i) (add s rest) ≡ slot_at i rest
later_slot Own rest i = refl
later_slot (Default p) rest i = refl
later_slot (Dynamic v) rest i = refl
later_slot (Field f) rest i = refl
later_slot (Named class s) rest i = refl
later_slot (Define class s n) rest i = refl
later_slot (Part n) rest i = refl

pub fronts_are_slots : FrontsAreSlots
fronts_are_slots [] zero = refl
fronts_are_slots [] (suc i) = refl
fronts_are_slots (x ∷ xs) zero = first_slot x (slots_of xs)
fronts_are_slots (x ∷ xs) (suc i) = later_slot x (slots_of xs) i ∙ fronts_are_slots xs i

pub got_front : (xs : List Slot) (i : ℕ) (x : Slot) → slice_get xs i ≡ Some x → slice_get (fronts xs) i ≡ Some (front_of x)
got_front [] i x e = absurd cc
got_front (y ∷ ys) zero x e = let same : y ≡ x = cc in ap (λ z. Some (front_of z)) same
got_front (y ∷ ys) (suc i) x e = got_front ys i x e
