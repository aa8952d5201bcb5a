-- What a step back makes of the items of the map that was reached: the patches lead on towards the first map, and each item
-- keeps the number that it has in the last one.
-- own: SystemRDL 2.0 has no edits.
use Rattle.std.specs.Prelude.{ℕ, ◌==◌, Bool, true, false, ◌&&◌, ◌||◌, not, nat_le, nat_lt, List, [], ◌∷◌, length, Option, Some, None, option_map, insert, remove, slice_get, slice_set}
use Rattle.rdl_tree.specs.Address.{holder_of, number_of}
use Rattle.rdl_tree.specs.Patch.{address_of}
use Rattle.rdl_tree.specs.declared.patch.Patch.{Patch}
use Rattle.rdl_tree.specs.declared.patch.Patch.TheVariants.{Insert, Delete, Shift, Exchange}
use Rattle.rdl_origin.specs.Traces.{Traces, traces_at, map_inside}
use Rattle.rdl_origin.specs.View.{traces_of, list_of}
use Rattle.rdl_origin.specs.Numbered.{unnumbered_item}
use Rattle.rdl_origin.specs.declared.origin.Origin.{Origin}

-- ---- What a patch makes of the body in which its item has this number.

-- the item was moved, if it had another place
abbrev pub moved : (from : ℕ) → (to : ℕ) → Origin → Origin
moved from to o = record o { is_moved = o.is_moved || not (from == to) }

abbrev pub touched : Origin → Origin
touched o = record o { is_touched = true }

-- with this item put in, if there is one
abbrev pub put_in : (number : ℕ) → Option Origin → List Origin → List Origin
put_in number None os = os
put_in number (Some o) os = insert os number o

-- with this item in the place of that of the number, if there is one
abbrev pub put_at : (number : ℕ) → Option Origin → List Origin → List Origin
put_at number None os = os
put_at number (Some o) os = slice_set os number o

-- an item that was removed comes, one that was added goes, one that was moved goes back, one that was changed stays
abbrev pub change : Patch → (number : ℕ) → List Origin → List Origin
change (Insert at x) number os = insert os number (unnumbered_item x)
change (Delete at) number os = remove os number
change (Shift at to) number os = put_in to (option_map (moved number to) (slice_get os number)) (remove os number)
change (Exchange at part) number os = put_at number (option_map touched (slice_get os number)) os

abbrev pub changed : Patch → (number : ℕ) → Traces → Traces
changed p number b = traces_of (change p number (list_of b))

-- ---- What patches make of all.

abbrev pub gone_back : Patch → Traces → Traces
gone_back p t = map_inside (holder_of (address_of p)) (changed p (number_of (address_of p))) t

-- from the first to the last
abbrev pub all_gone_back : List Patch → Traces → Traces
all_gone_back [] t = t
all_gone_back (p ∷ ps) t = all_gone_back ps (gone_back p t)

-- ---- Where they have a place.

-- in a body of so many items
abbrev pub has_place : Patch → (number : ℕ) → (size : ℕ) → Bool
has_place (Insert at x) number size = nat_le number size
has_place (Delete at) number size = nat_lt number size
has_place (Shift at to) number size = nat_lt number size && nat_lt to size
has_place (Exchange at part) number size = nat_lt number size

abbrev pub has_place_in : Patch → (number : ℕ) → Option Traces → Bool
has_place_in p number None = false
has_place_in p number (Some b) = has_place p number (length (list_of b))

abbrev pub is_placed : Patch → Traces → Bool
is_placed p t = nat_le 1 (length (address_of p)) && has_place_in p (number_of (address_of p)) (traces_at (holder_of (address_of p)) t)

-- each has one where those before it led
abbrev pub are_placed : List Patch → Traces → Bool
are_placed [] t = true
are_placed (p ∷ ps) t = is_placed p t && are_placed ps (gone_back p t)
