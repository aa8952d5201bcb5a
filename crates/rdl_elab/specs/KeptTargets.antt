-- The instances that a target passes, by what is kept of the components on its way.
-- own: SystemRDL 2.0 speaks of definitions and scopes. In a description without a fault they are those that `passes` finds.
use Rattle.std.specs.Prelude.{ℕ, nat_lt, Bool, false, List, [], ◌∷◌, ◌++◌, Option, Some, None, option_map, option_and_then, slice_get, if◌then◌else◌}
use Rattle.rdl_tree.specs.Address.{number_of}
use Rattle.rdl_elab.specs.Kept.{Part}
use Rattle.rdl_elab.specs.declared.walk.finished.Finished.{Finished}
use Rattle.rdl_elab.specs.PartNames.{part_named}

-- the addresses of the instances that these names pass, the first of them among these
abbrev pub kept_passes : List Finished → List Part → List (List ℕ) → Option (List (List ℕ))
kept_passes fs ps [] = None
kept_passes fs ps (name ∷ []) = option_map (λ p. p.at ∷ []) (part_named name ps)
kept_passes fs ps (name ∷ next ∷ names) =
    option_and_then (λ p. option_map (λ more. p.at ∷ more) (option_and_then (λ f. kept_passes fs f.parts.items (next ∷ names)) (slice_get fs p.component))) (part_named name ps)

-- those of this instance, and of those that these names pass inside it
abbrev pub kept_from : List Finished → Part → List (List ℕ) → Option (List (List ℕ))
kept_from fs p [] = Some (p.at ∷ [])
kept_from fs p (name ∷ names) =
    option_map (λ more. p.at ∷ more) (option_and_then (λ f. option_and_then (λ q. kept_from fs q names) (part_named name f.parts.items)) (slice_get fs p.component))

-- these instances, and then those that are yet to come, if they are there
abbrev pub after : List (List ℕ) → Option (List (List ℕ)) → Option (List (List ℕ))
after path more = option_map (λ x. path ++ x) more

-- an instance stands before item n of its body
abbrev pub is_before : ℕ → Option Part → Bool
is_before n None = false
is_before n (Some p) = nat_lt (number_of p.at) n

abbrev pub first_named : List (List ℕ) → List Part → Option Part
first_named [] ps = None
first_named (name ∷ names) ps = part_named name ps

-- the same for the target of item n
abbrev pub kept_target : List Finished → List Part → ℕ → List (List ℕ) → Option (List (List ℕ))
kept_target fs ps n names = if is_before n (first_named names ps) then kept_passes fs ps names else None
