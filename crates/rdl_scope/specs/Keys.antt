-- What a dynamic assignment may not repeat in its body, as a list of texts: the names of its property and target.
-- own: no part of what a fault is; by it the code finds repeated assignments.
use Rattle.std.specs.Prelude.{◌≡◌, ℕ, Bool, false, List, ◌∷◌, take, bytes_eq}
use Rattle.std.specs.List.{list_any}
use Rattle.std.specs.Cmp.Lexicographic.{pointwise}
use Rattle.rdl_tree.specs.declared.description.Item.{Item}
use Rattle.rdl_tree.specs.declared.description.Item.TheVariants.{Define, Instance, Own, Default, Dynamic}
use Rattle.rdl_scope.specs.KeySpot.{is_noted}
use Rattle.rdl_scope.specs.declared.keys.Keys.{Keys}

abbrev pub has_key : List (List ℕ) → Item → Bool
has_key key (Dynamic t p v) = pointwise bytes_eq (p ∷ t) key
has_key key (Define n c) = false
has_key key (Instance s o) = false
has_key key (Own p v) = false
has_key key (Default p v) = false

-- one of the first n items has the key
abbrev pub key_before : List (List ℕ) → ℕ → List Item → Bool
key_before key n xs = list_any (has_key key) (take n xs)

-- whether the key was noted
abbrev pub held : Keys → List (List ℕ) → Bool
held s q = is_noted s.slots.items s.firsts.items s.others q

-- the keys of which this holds were noted
abbrev pub Holds : Keys → (List (List ℕ) → Bool) → Type 0
Holds s f = (q : List (List ℕ)) → held s q ≡ f q
