-- The types that a body sees as a stack, with the place of the nearest of each name.
-- own: how the types are kept. Which of them a name means `lookup` says.
use Rattle.std.specs.Prelude.{◌≡◌, ℕ, List, [], ◌∷◌, length, map, Option}
use Rattle.rdl_scope.specs.ByName.{value_under}
use Rattle.rdl_scope.specs.Closed.{lookup}
use Rattle.rdl_nodes.specs.declared.types.Defined.{Defined}
use Rattle.rdl_nodes.specs.declared.types.Places.{Places}

-- the names of these types, the nearest first, with their places
abbrev pub placed : List Defined → List (List ℕ × ℕ)
placed [] = []
placed (x ∷ xs) = (x.name.now, length xs) ∷ placed xs

-- the places of the types that these hide
abbrev pub hidden : List Defined → List (Option ℕ)
hidden [] = []
hidden (x ∷ xs) = lookup x.name.now (placed xs) ∷ hidden xs

-- each type knows the place of the one that it hides
abbrev pub Hides : List Defined → Type 0
Hides xs = map (λ (x : Defined). x.hides) xs ≡ hidden xs

-- what is kept by name is the place of the nearest type
abbrev pub IsIndex : Places → List (List ℕ × ℕ) → Type 0
IsIndex places types = (q : List ℕ) → value_under places.by_name q ≡ lookup q types

-- without the nearest type the one that it hid is found again
abbrev pub Uncovers : List ℕ → Option ℕ → Places → Places → Type 0
Uncovers name hides old new = (types : List (List ℕ × ℕ)) (place : ℕ) → IsIndex old ((name, place) ∷ types) → hides ≡ lookup name types → IsIndex new types
