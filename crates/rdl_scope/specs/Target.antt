-- The instances that a target passes.
-- SystemRDL 2.0, clause 5, dynamic assignment: the target names instances that stand before it, one inside the other.
use Rattle.std.specs.Prelude.{ℕ, zero, suc, Bool, false, List, [], ◌∷◌, ◌++◌, Option, Some, None, option_map, option_and_then, bytes_eq, if◌then◌else◌}
use Rattle.rdl_tree.specs.ItemAt.{item_at}
use Rattle.rdl_tree.specs.Items.{Items, no_items, plain, holder, Plain, named, own, default, dynamic, Holder, define, anonymous}
use Rattle.rdl_tree.specs.Address.{body_at}
use Rattle.rdl_tree.specs.declared.description.Item.{Item}
use Rattle.rdl_tree.specs.declared.description.Item.TheVariants.{Define, Instance, Own, Default, Dynamic}
use Rattle.rdl_scope.specs.Types.{component_of, items_in}

abbrev pub plain_named : List ℕ → Plain → Bool
plain_named name (named s t) = bytes_eq s.name name
plain_named name (own p v) = false
plain_named name (default p v) = false
plain_named name (dynamic t p v) = false

abbrev pub holder_named : List ℕ → Holder → Bool
holder_named name (define n k) = false
holder_named name (anonymous s k) = bytes_eq s.name name

-- the number of the instance of the name among the first n items
abbrev pub instance_before : List ℕ → ℕ → Items → Option ℕ
instance_before name zero t = None
instance_before name (suc n) no_items = None
instance_before name (suc n) (plain p rest) = if plain_named name p then Some 0 else option_map suc (instance_before name n rest)
instance_before name (suc n) (holder h body rest) = if holder_named name h then Some 0 else option_map suc (instance_before name n rest)

-- the address of that instance, for the body at b
abbrev pub instance_in : Items → List ℕ → ℕ → List ℕ → Option (List ℕ)
instance_in d b n name = option_map (λ k. b ++ k ∷ []) (option_and_then (instance_before name n) (body_at b d))

-- the addresses of the instance items that these names pass: the first of them among the first n items of the body at b,
-- each next one in the body of the component of the one before it
abbrev pub passes : Items → List ℕ → ℕ → List (List ℕ) → Option (List (List ℕ))
passes d b n [] = None
passes d b n (name ∷ []) = option_map (λ a. a ∷ []) (instance_in d b n name)
passes d b n (name ∷ next ∷ names) =
    option_and_then (λ a. option_map (λ more. a ∷ more) (option_and_then (λ c. passes d c (items_in c d) (next ∷ names)) (component_of d a))) (instance_in d b n name)

-- the address of the body that holds an item, and the item's number there
abbrev pub body_of : List ℕ → List ℕ
body_of [] = []
body_of (k ∷ []) = []
body_of (k ∷ j ∷ a) = k ∷ body_of (j ∷ a)

abbrev pub number_of : List ℕ → ℕ
number_of [] = 0
number_of (k ∷ []) = k
number_of (k ∷ j ∷ a) = number_of (j ∷ a)

abbrev pub through_of : Items → List ℕ → Item → Option (List (List ℕ))
through_of d x (Dynamic t p v) = passes d (body_of x) (number_of x) t
through_of d x (Define n c) = None
through_of d x (Instance s o) = None
through_of d x (Own p v) = None
through_of d x (Default p v) = None

-- the instances that the target of the dynamic item at this address passes
abbrev pub through : Items → List ℕ → Option (List (List ℕ))
through d x = option_and_then (through_of d x) (item_at x d)
