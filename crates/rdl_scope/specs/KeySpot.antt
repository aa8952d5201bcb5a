-- Where the key of a dynamic assignment is found: in the slot of its front, which most keys share with no other, or among the
-- others.
-- own: no part of what a fault is; by it the code finds repeated assignments.
use Rattle.std.specs.Prelude.{◌≡◌, ℕ, zero, suc, Bool, false, ◌&&◌, ◌||◌, List, [], ◌∷◌, length, map, Option, None, Some, slice_get, bytes_eq, if◌then◌else◌}
use Rattle.std.specs.List.{list_any}
use Rattle.std.specs.Ordering.{is_eq, nat_cmp}
use Rattle.std.specs.Cmp.Lexicographic.{pointwise}
use Rattle.std.specs.BTreeSet.{BTreeSet}
use Rattle.std.specs.declared.alloc.Global.{Global}
use Rattle.std.specs.declared.vec.Vec.{Vec}
use denote.Ref.{Bor}
use Rattle.rdl_scope.specs.Front.{assigned_front}
use Rattle.rdl_scope.specs.Spot.{slot_of}
use Rattle.rdl_scope.specs.declared.entry.Spot.{Spot}
use Rattle.rdl_scope.specs.declared.entry.Spot.TheVariants.{Free, Own, Other}
use Rattle.rdl_scope.specs.declared.key_spot.Key.{Key}

-- the names of a key: the property's and the target's
abbrev pub names : Key → List (List ℕ)
names key = key.name.now ∷ key.target.now

-- a number by which two keys are mostly told apart
abbrev pub key_front : List (List ℕ) → ℕ
key_front [] = 0
key_front (p ∷ t) = assigned_front t p

-- the slot of a key
abbrev pub key_slot : List ℕ → List (List ℕ) → ℕ
key_slot slots q = slot_of (key_front q) (length slots)

abbrev pub is_of : List (List ℕ) → Key → Bool
is_of q key = pointwise bytes_eq (names key) q

-- where a key is found whose slot leads to the first key of this number
abbrev pub spot_in : List (List ℕ) → ℕ → Option Key → Spot
spot_in q n None = Other
spot_in q n (Some key) = if is_of q key then Own n else Other

-- where a key is found whose slot has this: 0, or one more than the number of a first key
abbrev pub spot_under : List ℕ → List Key → List (List ℕ) → Option ℕ → Spot
spot_under slots firsts q None = Other
spot_under slots firsts q (Some zero) = Free (key_slot slots q)
spot_under slots firsts q (Some (suc n)) = spot_in q n (slice_get firsts n)

-- where a key is found
abbrev pub key_spot : List ℕ → List Key → List (List ℕ) → Spot
key_spot slots firsts q = spot_under slots firsts q (slice_get slots (key_slot slots q))

-- whether this first key is the key
abbrev pub is_in : List (List ℕ) → Option Key → Bool
is_in q None = false
is_in q (Some key) = is_of q key

-- whether a slot that has this leads to the key
abbrev pub is_at : List Key → List (List ℕ) → Option ℕ → Bool
is_at firsts q None = false
is_at firsts q (Some zero) = false
is_at firsts q (Some (suc n)) = is_in q (slice_get firsts n)

-- a key as the code keeps the others: its names, behind its front
abbrev pub OtherKey : Type 0
OtherKey = ℕ × Vec (Bor (List ℕ)) Global

abbrev pub texts : List (Bor (List ℕ)) → List (List ℕ)
texts key = map (λ s. s.now) key

abbrev pub has_names : List (List ℕ) → OtherKey → Bool
has_names q key = is_eq (nat_cmp (key_front q) key.0) && pointwise bytes_eq q (texts key.1.items)

-- whether the key is among the others
abbrev pub is_other : BTreeSet OtherKey → List (List ℕ) → Bool
is_other others q = list_any (has_names q) others.keys

-- whether the key is one of all
abbrev pub is_noted : List ℕ → List Key → BTreeSet OtherKey → List (List ℕ) → Bool
is_noted slots firsts others q = is_at firsts q (slice_get slots (key_slot slots q)) || is_other others q

-- a key whose slot has nothing isn't among the others
abbrev pub FreeHaveNone : List ℕ → BTreeSet OtherKey → Type 0
FreeHaveNone slots others = (q : List (List ℕ)) → slice_get slots (key_slot slots q) ≡ Some 0 → is_other others q ≡ false
