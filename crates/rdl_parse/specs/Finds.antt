-- Items, and where the word of each stands.
-- Own.
use Rattle.std.specs.Prelude.{ℕ, ◌-◌, nat_le, Bool, ◌&&◌, List, [], ◌∷◌, ◌++◌, length, sum_by}
use Rattle.rdl_tree.specs.ItemWeight.{item_weight}
use Rattle.rdl_tree.specs.declared.description.Item.{Item}
use Rattle.rdl_parse.specs.declared.found.Found.{Found}
use Rattle.rdl_parse.specs.declared.found.Spot.{Spot}
use Rattle.rdl_parse.specs.declared.room.Room.{Room}

-- the items of a body, and for each item in pre-order its place and how many items are inside it
pub record Finds : Type 0 where
  pub items : List Item
  pub spots : List Spot

abbrev pub seen : Found → Finds
seen f = record { items = f.items.items; spots = f.spots.items }

abbrev pub nothing : Finds
nothing = record { items = []; spots = [] }

abbrev pub spot : ℕ → List Spot → Spot
spot left inner = record { left = left; inside = length inner }

-- an item whose word has so many words from it on, and what is inside it
abbrev pub single : Item → ℕ → List Spot → Finds
single x left inner = record { items = x ∷ []; spots = spot left inner ∷ inner }

abbrev pub joined : Finds → Finds → Finds
joined a b = record { items = a.items ++ b.items; spots = a.spots ++ b.spots }

abbrev pub weight_of : List Item → ℕ
weight_of xs = sum_by item_weight xs

-- there is room for them; each item has a spot, so these count the items
abbrev pub fits : Room → Finds → Bool
fits room f = nat_le (length f.spots) room.items && nat_le (weight_of f.items) room.weight

-- the room that they leave
abbrev pub less : Room → Finds → Room
less room f = record { items = room.items - length f.spots; weight = room.weight - weight_of f.items }
