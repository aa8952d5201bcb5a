-- The own assignments in a body, each with its property.
-- own: how they are kept. What they are `own_value` says.
use Rattle.std.specs.Prelude.{◌≡◌, ℕ, Bool, true, false, List, [], ◌∷◌, take, slice_get, Option, None, Some, bytes_eq, if◌then◌else◌}
use Rattle.std.specs.List.{list_any}
use Rattle.rdl_tree.specs.View.{list_of}
use Rattle.rdl_tree.specs.declared.description.Item.{Item}
use Rattle.rdl_tree.specs.declared.description.Item.TheVariants.{Define, Instance, Own, Default, Dynamic}
use Rattle.rdl_tree.specs.Items.{Items}
use Rattle.rdl_tree.specs.Properties.{row}
use Rattle.rdl_tree.specs.declared.property.Property.{Property}
use Rattle.rdl_tree.specs.declared.value.Value.{Value}
use Rattle.rdl_tree.specs.Address.{number_of}
use Rattle.rdl_scope.specs.Value.{own_value, own_before}
use Rattle.rdl_elab.specs.Kept.{Part}
use Rattle.rdl_elab.specs.declared.walk.own_values.Assigned.{Assigned}

-- the first value that is assigned to the property
abbrev pub assigned_to : Property → List Assigned → Option Value
assigned_to p [] = None
assigned_to p (a ∷ others) = if bytes_eq (row a.property).name (row p).name then Some a.value.now else assigned_to p others

-- for each property this is the own assignment in the body
abbrev pub AreOwn : List Assigned → Items → Type 0
AreOwn items body = (p : Property) → assigned_to p items ≡ own_value (row p).name body

abbrev pub is_dynamic : Item → Bool
is_dynamic (Dynamic t p v) = true
is_dynamic (Define m c) = false
is_dynamic (Instance s o) = false
is_dynamic (Own p v) = false
is_dynamic (Default p v) = false

abbrev pub dynamic_there : Option Item → Bool
dynamic_there None = false
dynamic_there (Some x) = is_dynamic x

-- the body has a dynamic assignment
abbrev pub any_dynamic : Items → Bool
any_dynamic body = list_any is_dynamic (list_of body)

-- the first dynamic assignment, with one item more, of this number, which may be one
abbrev pub first_met : Option ℕ → ℕ → Bool → Option ℕ
first_met before n false = before
first_met None n true = Some n
first_met (Some k) n true = Some k

-- of these items none before this number is a dynamic assignment, and none at all where there is no number
abbrev pub IsFirstAmong : Option ℕ → List Item → Type 0
IsFirstAmong None xs = list_any is_dynamic xs ≡ false
IsFirstAmong (Some n) xs = (list_any is_dynamic (take n xs) ≡ false) × (list_any is_dynamic xs ≡ true)

-- the first dynamic assignment of a body, if there is one
abbrev pub IsFirstDynamic : Option ℕ → Items → Type 0
IsFirstDynamic first body = IsFirstAmong first (list_of body)

-- the first dynamic assignment as far as this many items go
abbrev pub IsFirstWithin : Option ℕ → ℕ → List Item → Type 0
IsFirstWithin None i xs = list_any is_dynamic (take i xs) ≡ false
IsFirstWithin (Some n) i xs = (list_any is_dynamic (take n xs) ≡ false) × (list_any is_dynamic (take i xs) ≡ true)

-- the own assignments among so many items of a body, and the first dynamic one
pub record AreStatedBefore (n : ℕ) (items : List Assigned) (first : Option ℕ) (body : Items) : Type 0 where
  pub own : (p : Property) → assigned_to p items ≡ own_before (row p).name n body
  pub dynamic : IsFirstWithin first n (list_of body)

-- an item that is there is an instance
abbrev pub IsInstance : Option Item → Type 0
IsInstance None = ⊥
IsInstance (Some (Instance s o)) = Unit {0}
IsInstance (Some (Define m c)) = ⊥
IsInstance (Some (Own p v)) = ⊥
IsInstance (Some (Default p v)) = ⊥
IsInstance (Some (Dynamic t p v)) = ⊥

-- each of these is an instance among the items
abbrev pub AreOfInstances : List Item → List Part → Type 0
AreOfInstances xs [] = Unit {0}
AreOfInstances xs (p ∷ ps) = IsInstance (slice_get xs (number_of p.at)) × AreOfInstances xs ps
