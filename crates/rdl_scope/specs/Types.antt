-- The type of a reference, and the component of an instance: searches through whole bodies.
-- SystemRDL 2.0, clause 5, defining and instantiating components: a definition stands before its use, and an inner one hides an outer one.
-- own: of two definitions of a name in one body, which other faults refuse, the last before the reference counts.
use Rattle.std.specs.Prelude.{ℕ, zero, suc, Bool, false, List, [], ◌∷◌, length, Option, Some, None, option_map, option_and_then, bytes_eq, if◌then◌else◌}
use Rattle.std.specs.Option.{option_or}
use Rattle.rdl_tree.specs.ItemAt.{item_at}
use Rattle.rdl_tree.specs.Items.{Items, no_items, plain, holder, Holder, define, anonymous}
use Rattle.rdl_tree.specs.View.{list_of}
use Rattle.rdl_tree.specs.Address.{inner, body_at}
use Rattle.rdl_tree.specs.Component.{own_component}
use Rattle.rdl_tree.specs.declared.description.Component.{Component}
use Rattle.rdl_tree.specs.declared.description.Item.{Item}
use Rattle.rdl_tree.specs.declared.description.Item.TheVariants.{Define, Instance, Own, Default, Dynamic}
use Rattle.rdl_tree.specs.declared.description.Of.TheVariants.{Named, Anonymous}

abbrev pub defines : List ℕ → Holder → Bool
defines name (define n k) = bytes_eq n name
defines name (anonymous s k) = false

-- the number of the last definition of the name among the first n items
abbrev pub last_definition : List ℕ → ℕ → Items → Option ℕ
last_definition name zero t = None
last_definition name (suc n) no_items = None
last_definition name (suc n) (plain p rest) = option_map suc (last_definition name n rest)
last_definition name (suc n) (holder h body rest) = option_or (option_map suc (last_definition name n rest)) (if defines name h then Some 0 else None)

-- for a reference in the item at this address: the last definition of the name before it, in the innermost body around it that has one
abbrev pub type_at : List ℕ → Items → List ℕ → Option (List ℕ)
type_at [] t name = None
type_at (i ∷ path) t name =
    option_or (option_map (λ a. i ∷ a) (option_and_then (λ b. type_at path b name) (inner i t)))
    (option_map (λ k. k ∷ []) (last_definition name i t))

-- the definition to which the type reference of a named instance leads
abbrev pub type_from : Items → List ℕ → Item → Option (List ℕ)
type_from d a (Instance s (Named t)) = type_at a d t
type_from d a (Instance s (Anonymous c)) = None
type_from d a (Define n c) = None
type_from d a (Own p v) = None
type_from d a (Default p v) = None
type_from d a (Dynamic t p v) = None

abbrev pub type_of : Items → List ℕ → Option (List ℕ)
type_of d a = option_and_then (type_from d a) (item_at a d)

-- the item that holds the component of the instance at this address
abbrev pub held_by : Items → List ℕ → Item → Option (List ℕ)
held_by d a (Instance s (Named t)) = type_at a d t
held_by d a (Instance s (Anonymous c)) = Some a
held_by d a (Define n c) = None
held_by d a (Own p v) = None
held_by d a (Default p v) = None
held_by d a (Dynamic t p v) = None

abbrev pub component_of : Items → List ℕ → Option (List ℕ)
component_of d a = option_and_then (held_by d a) (item_at a d)

-- the component that the item at this address holds
abbrev pub component_at : Items → List ℕ → Option Component
component_at d a = option_and_then own_component (item_at a d)

-- how many items the body at an address has
abbrev pub items_in : List ℕ → Items → ℕ
items_in b d = elim (body_at b d) [ None ↦ 0 | Some t ↦ length (list_of t) ]
