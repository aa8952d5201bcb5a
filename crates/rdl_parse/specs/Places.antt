-- The places of a description's items: of each in pre-order the byte at which its word begins, and how many items are inside it.
-- Own.
use Rattle.std.specs.Prelude.{ℕ, zero, suc, ◌-◌, List, [], ◌∷◌, length, map, take, drop, Option, Some, None, slice_get}
use Rattle.std.specs.Option.{option_map, option_map_or}
use Rattle.rdl_text.specs.Word.{Word}
use Rattle.rdl_text.specs.Place.{line, column}
use Rattle.rdl_parse.specs.declared.found.Spot.{Spot}
use Rattle.rdl_parse.specs.declared.places.ItemPlace.{ItemPlace}

-- the byte at which the word begins from which on so many words are left
abbrev pub start_of : List Word → (left : ℕ) → ℕ
start_of ws left = option_map_or (λ w. w.start) (slice_get ws (length ws - left)) 0

abbrev pub place_of : List Word → Spot → ItemPlace
place_of ws s = record { start = start_of ws s.left; inside = s.inside }

-- a text, and the places of items whose words stand in it
pub record Located : Type 0 where
  pub text : List ℕ
  pub places : List ItemPlace

abbrev pub located : List ℕ → List Word → List Spot → Located
located text ws at = record { text = text; places = map (place_of ws) at }

-- ---- The place of the item at an address: past what is inside the items before it.

-- these places from the i-th item of a body on
abbrev pub from_item : ℕ → List ItemPlace → List ItemPlace
from_item i [] = []
from_item zero (p ∷ ps) = p ∷ ps
from_item (suc i) (p ∷ ps) = from_item i (drop p.inside ps)

-- the places inside the first item
abbrev pub inside_first : List ItemPlace → List ItemPlace
inside_first [] = []
inside_first (p ∷ ps) = take p.inside ps

-- the places from the item at an address on, where i is its first number and the path the others
abbrev pub from_address : ℕ → List ℕ → List ItemPlace → List ItemPlace
from_address i [] ps = from_item i ps
from_address i (j ∷ path) ps = from_address j path (inside_first (from_item i ps))

abbrev pub first_start : List ItemPlace → Option ℕ
first_start [] = None
first_start (p ∷ ps) = Some p.start

-- the byte at which the word of the item begins, if there is an item
abbrev pub start_at : List ℕ → List ItemPlace → Option ℕ
start_at [] ps = None
start_at (i ∷ path) ps = first_start (from_address i path ps)

-- its line and its column
abbrev pub place_at : List ℕ → Located → Option (ℕ × ℕ)
place_at address p = option_map (λ start. (line p.text start, column p.text start)) (start_at address p.places)
