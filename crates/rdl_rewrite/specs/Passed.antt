-- The instances that a target passes, from its first on, and whether it may pass the item on the way, as the names say.
-- own: no part of what a target passes; `passes` (Target of rdl_scope) says that by a search through whole bodies.
use Rattle.std.specs.Prelude.{◌≡◌, ℕ, Bool, true, false, ◌&&◌, ◌||◌, if◌then◌else◌, bytes_eq, List, [], ◌∷◌, Option, Some, None, option_map, option_and_then}
use Rattle.rdl_tree.specs.Items.{Items}
use Rattle.rdl_tree.specs.declared.description.Item.{Item}
use Rattle.rdl_tree.specs.declared.description.Item.TheVariants.{Define, Instance, Own, Default, Dynamic}
use Rattle.rdl_scope.specs.Types.{component_of, items_in}
use Rattle.rdl_scope.specs.Target.{passes}
use Rattle.rdl_scope.specs.Walk.{is_instance}
use Rattle.rdl_rewrite.specs.Addresses.{same, passes_by}

-- an instance of this name may have the component that the item holds
abbrev pub may_hold : Option Item → List ℕ → Bool
may_hold None name = false
may_hold (Some (Define n c)) name = true
may_hold (Some (Instance s o)) name = bytes_eq s.name name
may_hold (Some (Own p v)) name = false
may_hold (Some (Default p v)) name = false
may_hold (Some (Dynamic t p v)) name = false

-- the taken item is an instance in the component that the holder holds; the names begin inside that or elsewhere
abbrev pub may_pass : (taken holder : Option Item) → (inside : Bool) → List (List ℕ) → Bool
may_pass taken holder inside [] = false
may_pass taken holder inside (name ∷ names) = (inside && is_instance name taken) || may_pass taken holder (may_hold holder name) names

-- the instance at this address, and those that the other names pass
abbrev pub passes_from : Items → List ℕ → List (List ℕ) → Option (List (List ℕ))
passes_from d a [] = Some (a ∷ [])
passes_from d a (next ∷ names) = option_map (λ more. a ∷ more) (option_and_then (λ c. passes d c (items_in c d) (next ∷ names)) (component_of d a))

-- a path, if it passes the item on the way
abbrev pub if_passed : (way : List ℕ) → Option (List (List ℕ)) → Option (List (List ℕ))
if_passed way path = if passes_by way path then path else None

-- for the n-th item of the body at b, the first of two names stands for another instance than the item on the way, and the
-- second for that
pub record IsBefore (d : Items) (way b : List ℕ) (n : ℕ) (first : List ℕ) (names : List (List ℕ)) : Type 0 where
  pub second : List ℕ
  pub instance : List ℕ
  pub two : names ≡ first ∷ second ∷ []
  pub apart : same instance way ≡ false
  pub path : passes d b n names ≡ Some (instance ∷ way ∷ [])
