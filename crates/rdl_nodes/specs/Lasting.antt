-- Where the last instances of each name stand among the first instances of a body.
-- own: how instances are found by their names.
use Rattle.std.specs.Prelude.{◌≡◌, ℕ, suc, ◌*◌, ◌/◌, ◌%◌, ◌^◌, ◌<◌, ◌≤◌, List, [], ◌∷◌, ◌++◌, length, take, Some, slice_get, nat_eq, if◌then◌else◌}
use Rattle.rdl_scope.specs.Front.{front}
use Rattle.rdl_seen.specs.Inside as seen
use Rattle.rdl_seen.specs.Inside.{no_instances, instance, how_many}
use Rattle.rdl_nodes.specs.HeldInside.{inside_of}
use Rattle.rdl_nodes.specs.declared.inside.Instance.{Instance}
use Rattle.rdl_nodes.specs.declared.lasts.Lasts.{Lasts}

-- the slot of a name, of so many
unfoldable pub slot_of : ℕ → List ℕ → ℕ
slot_of slots name = (((front name * 12540220313503443765) % 2 ^ 64) / 2 ^ 32) % slots

-- one more than the number of the last instance of a slot, or 0
abbrev pub last_in : ℕ → ℕ → seen.Inside → ℕ
last_in slots slot no_instances = 0
last_in slots slot (instance name number kind spots inside before) = if nat_eq (slot_of slots name) slot then suc (how_many before) else last_in slots slot before

-- the same of the slot of each instance, before that instance
abbrev pub links_of : ℕ → seen.Inside → List ℕ
links_of slots no_instances = []
links_of slots (instance name number kind spots inside before) = links_of slots before ++ last_in slots (slot_of slots name) before ∷ []

-- the first of some instances, so many
abbrev pub first_of : ℕ → List Instance → seen.Inside
first_of n xs = inside_of (take n xs)

-- so many links are those of the first instances, and the slots have the last ones of these
pub record AreLastsOf (xs : List Instance) (many : ℕ) (slots : List ℕ) (links : List ℕ) : Type 0 where
  pub few : length links ≤ length xs
  pub some : 0 < length links → 0 < many
  pub last : (slot : ℕ) → slot < many → slice_get slots slot ≡ Some (last_in many slot (first_of (length links) xs))
  pub before : links ≡ links_of many (first_of (length links) xs)

abbrev pub AreLasts : List Instance → Lasts → Type 0
AreLasts xs l = AreLastsOf xs (length l.slots.items) l.slots.items l.links.items
