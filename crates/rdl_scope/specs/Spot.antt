-- Where what stands under a name is found: in the slot of its front, which most names share with no other, or among the others.
-- own: how items are found by their names.
use Rattle.std.specs.Prelude.{◌≡◌, ℕ, zero, suc, ◌*◌, ◌^◌, ◌%◌, ◌/◌, Bool, true, ◌&&◌, ◌==◌, List, length, Option, None, Some, slice_get, bytes_eq, if◌then◌else◌}
use Rattle.std.specs.Option.{is_none}
use Rattle.std.specs.BTreeMap.{BTreeMap, get_by}
use Rattle.rdl_scope.specs.Front.{front, name_cmp}
use Rattle.rdl_scope.specs.declared.entry.Entry.{Entry}
use Rattle.rdl_scope.specs.declared.entry.Spot.{Spot}
use Rattle.rdl_scope.specs.declared.entry.Spot.TheVariants.{Free, Own, Other}
use denote.Ref.{Bor}

-- the slot of a name of this front, of so many
unfoldable pub slot_of : ℕ → ℕ → ℕ
slot_of n count = (((((n * 12540220313503443765) % 2 ^ 64) / 2 ^ 32) * count) % 2 ^ 64) / 2 ^ 32

-- the slot of a name
abbrev pub slot : List ℕ → List ℕ → ℕ
slot slots q = slot_of (front q) (length slots)

abbrev pub is_own : {V : Type 0} → List ℕ → Entry V → Bool
is_own q e = (e.front == front q) && bytes_eq e.name.now q

-- where a name is found whose slot leads to the entry of this number
abbrev pub spot_in : {V : Type 0} → List ℕ → ℕ → Option (Entry V) → Spot
spot_in q n None = Other
spot_in q n (Some e) = if is_own q e then Own n else Other

-- where a name is found whose slot has this: 0, or one more than the number of an entry
abbrev pub spot_under : {V : Type 0} → List ℕ → List (Entry V) → List ℕ → Option ℕ → Spot
spot_under slots entries q None = Other
spot_under slots entries q (Some zero) = Free (slot slots q)
spot_under slots entries q (Some (suc n)) = spot_in q n (slice_get entries n)

-- where a name is found
abbrev pub spot : {V : Type 0} → List ℕ → List (Entry V) → List ℕ → Spot
spot slots entries q = spot_under slots entries q (slice_get slots (slot slots q))

-- what stands under a name whose slot leads to this entry; the other is what stands under it among the others
abbrev pub value_in : {V : Type 0} → List ℕ → (other : Option V) → Option (Entry V) → Option V
value_in q other None = other
value_in q other (Some e) = if is_own q e then e.value else other

-- what stands under a name whose slot has this
abbrev pub value_at : {V : Type 0} → List (Entry V) → List ℕ → (other : Option V) → Option ℕ → Option V
value_at entries q other None = other
value_at entries q other (Some zero) = None
value_at entries q other (Some (suc n)) = value_in q other (slice_get entries n)

-- what stands under a name
abbrev pub value_found : {V : Type 0} → List ℕ → List (Entry V) → BTreeMap (ℕ × Bor (List ℕ)) V → List ℕ → Option V
value_found slots entries others q = value_at entries q (get_by (name_cmp q) others) (slice_get slots (slot slots q))

-- a name whose slot has nothing isn't among the others
abbrev pub FreeHaveNone : {V : Type 0} → List ℕ → BTreeMap (ℕ × Bor (List ℕ)) V → Type 0
FreeHaveNone slots others = (q : List ℕ) → slice_get slots (slot slots q) ≡ Some 0 → is_none (get_by (name_cmp q) others) ≡ true
