-- The names that an edit may not use again. Own: SystemRDL 2.0 lets a definition in an inner body hide one outside.
use Rattle.std.specs.Prelude.{◌≡◌, ℕ, Bool, false, ◌||◌, bytes_eq, List, [], ◌∷◌, ◌++◌}
use Rattle.std.specs.List.{list_any, flat_map}
use Rattle.std.specs.BTreeSet.{BTreeSet, contains_by}
use Rattle.std.specs.Cmp.Lexicographic.{slice_cmp}
use Rattle.std.specs.Ordering.{nat_cmp}
use denote.Ref.{Bor}
use Rattle.rdl_tree.specs.Items.{Items, no_items, plain, holder, Holder, define, anonymous}
use Rattle.rdl_tree.specs.declared.description.Item.{Item}
use Rattle.rdl_tree.specs.declared.description.Item.TheVariants.{Define, Instance, Own, Default, Dynamic}

-- the names of all definitions, those inside included
abbrev pub holder_names : Holder → List (List ℕ)
holder_names (define name k) = name ∷ []
holder_names (anonymous s k) = []

abbrev pub defined_names : Items → List (List ℕ)
defined_names no_items = []
defined_names (plain p rest) = defined_names rest
defined_names (holder h body rest) = holder_names h ++ defined_names body ++ defined_names rest

-- the names of the instances among these items themselves
abbrev pub instance_name : Item → List (List ℕ)
instance_name (Define n c) = []
instance_name (Instance s of) = s.name ∷ []
instance_name (Own p v) = []
instance_name (Default p v) = []
instance_name (Dynamic t p v) = []

abbrev pub instance_names : List Item → List (List ℕ)
instance_names xs = flat_map instance_name xs

-- one of the new names is an old one, or stands twice among the new
abbrev pub has_name : List ℕ → List (List ℕ) → Bool
has_name name names = list_any (λ n. bytes_eq n name) names

abbrev pub clash : (new old : List (List ℕ)) → Bool
clash [] old = false
clash (n ∷ ns) old = has_name n old || has_name n ns || clash ns old

-- ---- As the code looks names up.

-- one of the names stands twice
abbrev pub is_twice : List (List ℕ) → Bool
is_twice [] = false
is_twice (n ∷ ns) = has_name n ns || is_twice ns

abbrev pub is_among : BTreeSet (Bor (List ℕ)) → List ℕ → Bool
is_among names n = contains_by (λ k. slice_cmp nat_cmp n k.now) names

-- the set has these names, of which none stands twice
pub record IsSetOf (set : BTreeSet (Bor (List ℕ))) (names : List (List ℕ)) : Type 0 where
  pub same : (n : List ℕ) → is_among set n ≡ has_name n names
  pub distinct : is_twice names ≡ false
