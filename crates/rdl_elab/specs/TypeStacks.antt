-- The types before an item as a stack, with an index of the nearest of each name.
-- own: how the types are kept. Which of them a name means `lookup` says.
use Rattle.std.specs.Prelude.{◌≡◌, ℕ, List, [], ◌∷◌, map, Option, None, Some, IfSome}
use Rattle.rdl_scope.specs.ByName.{value_under}
use Rattle.rdl_scope.specs.Closed.{lookup}
use Rattle.rdl_elab.specs.declared.walk.types.TypeEntry.{TypeEntry}
use Rattle.rdl_elab.specs.declared.walk.types.TypeIndex.{TypeIndex}
use Rattle.rdl_elab.specs.declared.walk.types.FoundType.{FoundType}
use Rattle.rdl_elab.specs.declared.walk.types.LastFound.{LastFound}

-- the names with the numbers of their components
abbrev pub pairs : List TypeEntry → List (List ℕ × ℕ)
pairs es = map (λ (e : TypeEntry). (e.name.now, e.component)) es

-- each type, the nearest first, knows the one whose name it hides
abbrev pub Hides : List TypeEntry → Type 0
Hides [] = Unit {0}
Hides (e ∷ es) = (e.hidden ≡ lookup e.name.now (pairs es)) × Hides es

-- the index has the nearest of each name
abbrev pub IsIndex : TypeIndex → List (List ℕ × ℕ) → Type 0
IsIndex index types = (q : List ℕ) → value_under index.components q ≡ lookup q types

-- without the nearest type the index has again the one whose name it hid
abbrev pub Uncovers : List ℕ → Option ℕ → TypeIndex → TypeIndex → Type 0
Uncovers name hidden old new = (types : List (List ℕ × ℕ)) (component : ℕ) → IsIndex old ((name, component) ∷ types) → hidden ≡ lookup name types → IsIndex new types

-- no type of this name is in the index
abbrev pub Lacks : List ℕ → TypeIndex → Type 0
Lacks name index = (types : List (List ℕ × ℕ)) → IsIndex index types → lookup name types ≡ None

-- a look-up among these types finds this
abbrev pub IsFound : FoundType → List (List ℕ × ℕ) → Type 0
IsFound f types = lookup f.name.now types ≡ Some f.component

-- and what was looked up last is found again
abbrev pub AreFound : LastFound → List (List ℕ × ℕ) → Type 0
AreFound found types = IfSome found.last (λ f. IsFound f types) × IfSome found.before (λ f. IsFound f types)
