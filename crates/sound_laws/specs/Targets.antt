-- The instances that a target passes, found by their names among the instances of a component.
-- SystemRDL 2.0, clause 5, dynamic assignment: the target names instances that stand before it, one inside the other.
-- own: SystemRDL 2.0 speaks of definitions and scopes. In a description without a fault they are those that `passes` finds.
use Rattle.std.specs.Prelude.{ℕ, nat_lt, Bool, false, List, [], ◌∷◌, Option, Some, None, option_map, option_and_then, bytes_eq, if◌then◌else◌}
use Rattle.rdl_tree.specs.Address.{number_of}
use Rattle.rdl_scope.specs.Closed.{Head, Parts, no_parts, part}
use Rattle.rdl_elab.specs.Reaches.{Reach, reaches_by}

-- an instance: its item, its component, and the instances in that
pub record Instance : Type 0 where
  pub at : List ℕ
  pub head : Head
  pub inside : Parts

abbrev pub named : List ℕ → Parts → Option Instance
named name no_parts = None
named name (part at s h inside rest) = if bytes_eq s.name name then Some (record { at = at; head = h; inside = inside }) else named name rest

-- the items that these names pass, the first of them among these instances
abbrev pub passed_by : List (List ℕ) → Parts → Option (List (List ℕ))
passed_by [] ps = None
passed_by (name ∷ []) ps = option_map (λ (i : Instance). i.at ∷ []) (named name ps)
passed_by (name ∷ next ∷ names) ps =
    option_and_then (λ (i : Instance). option_map (λ more. i.at ∷ more) (passed_by (next ∷ names) i.inside)) (named name ps)

-- an instance stands before item n of its body
abbrev pub is_before : ℕ → Option Instance → Bool
is_before n None = false
is_before n (Some i) = nat_lt (number_of i.at) n

abbrev pub first_named : List (List ℕ) → Parts → Option Instance
first_named [] ps = None
first_named (name ∷ names) ps = named name ps

-- the same for the target of item n of the body whose instances these are
abbrev pub target_in : Parts → ℕ → List (List ℕ) → Option (List (List ℕ))
target_in ps n names = if is_before n (first_named names ps) then passed_by names ps else None

-- the dynamic assignments in the body of a component
abbrev pub own_assignments : Head → Parts → List Reach
own_assignments h inside = reaches_by (target_in inside) 0 h.body
