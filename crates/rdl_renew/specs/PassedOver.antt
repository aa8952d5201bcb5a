-- Items of a body that is renewed, passed over one after the other: they are as they were, and what was kept of them is kept on.
-- own: SystemRDL 2.0 has no edits.
use Rattle.std.specs.Prelude.{◌≡◌, ℕ, zero, suc, ◌+◌, ◌∷◌, ◌++◌, [], Bool, true, false, List, length, Some, slice_get}
use Rattle.rdl_nodes.specs.declared.node.Slot.{Slot}
use Rattle.rdl_renew.specs.declared.done.Done.{Done}
use Rattle.rdl_renew.specs.Deaf.{is_first_settled}
use Rattle.rdl_renew.specs.Fronts.{front_of, fronts}
use Rattle.rdl_renew.specs.InFront.{IsInFront}

-- of the item of this number this slot was kept, and it may be the next one: it is settled, or a dynamic assignment in front of all that
-- differs
pub record MayPass (before : List Slot) (front number : ℕ) (d : Done) (s : Slot) : Type 0 where
  pub there : slice_get before number ≡ Some s
  pub is_settled : Bool
  pub settled : is_settled ≡ true → is_first_settled d.reach.alert (front_of s) ≡ true
  pub in_front : is_settled ≡ false → IsInFront d front s

-- the second ones are the first ones and one more, which had this number and this slot; what reaches the next one is the same
pub record IsKept (d : Done) (number : ℕ) (s : Slot) (e : Done) : Type 0 where
  pub slots : fronts e.slots.items ≡ fronts d.slots.items ++ front_of s ∷ []
  pub reach : e.reach ≡ d.reach
  pub lasts : e.lasts ≡ d.lasts
  pub in_place : e.are_in_place ≡ true → (d.are_in_place ≡ true) × (number ≡ length d.slots.items)
  pub add_same : e.add_same ≡ true → (d.add_same ≡ true) × (number ≡ length d.slots.items)
  pub alike : e.are_alike ≡ d.are_alike

-- that one is passed over
pub record IsPassed (before : List Slot) (front number : ℕ) (d e : Done) : Type 0 where
  pub slot : Slot
  pub may : MayPass before front number d slot
  pub kept : IsKept d number slot e

-- so are as many, of which the first one had this number
abbrev pub ArePassed : List Slot → (front from count : ℕ) → Done → Done → Type 0
ArePassed before front from zero d e = d ≡ e
ArePassed before front from (suc k) d e = (m : Done) × ArePassed before front from k d m × IsPassed before front (from + k) m e
