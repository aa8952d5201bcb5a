-- Where targets end, told by bodies and slots alone.
-- SystemRDL 2.0, clause 5, dynamic assignment: the target names instances, one inside the other.
use Rattle.std.specs.Prelude.{ℕ, true, List, [], ◌∷◌, Option, Some, None, option_map, option_and_then}
use Rattle.rdl_tree.specs.declared.shell.Kind.{Kind}
use Rattle.rdl_tree.specs.declared.shell.Kind.TheVariants.{Field}
use Rattle.rdl_seen.specs.Inside.{Spots, End, Asked, is_fitting_end, Verdict, known, asks_own}
use Rattle.rdl_places.specs.Scopes.{Place, Holding}
use Rattle.rdl_places.specs.Reached.{FoundAt, find_before, find_inside}

-- the last instance of the name before a place in its body
abbrev pub find_at : List ℕ → List Place → Option FoundAt
find_at name [] = None
find_at name (p ∷ ps) = find_before name p.number p ps

-- where the instances of a component lie, and whether they are fields of which no two share a bit
abbrev pub spots_at : Holding → Spots
spots_at h = record { spans = h.node.core.layouts.compact.spans; is_ordered = h.node.core.seen.is_ordered }

-- the instance inside a component at which these names end
abbrev pub end_at : List (List ℕ) → Holding → Option End
end_at [] h = None
end_at (name ∷ []) h = option_map (λ (f : FoundAt). record { spots = spots_at h; number = f.number }) (find_inside name h)
end_at (name ∷ next ∷ names) h = option_and_then (λ (f : FoundAt). option_and_then (end_at (next ∷ names)) f.holding) (find_inside name h)

-- the verdict of what is asked of an instance before the place, and of what is inside it
abbrev pub own_verdict_at : Asked → Option FoundAt → Verdict
own_verdict_at a None = known true
own_verdict_at a (Some f) = asks_own a f.number

abbrev pub inner_verdict_at : Asked → List (List ℕ) → Option FoundAt → Verdict
inner_verdict_at a names None = known true
inner_verdict_at a names (Some f) = known (is_fitting_end a (option_and_then (end_at names) f.holding))

abbrev pub target_verdict_at : Asked → List (List ℕ) → List Place → Verdict
target_verdict_at a [] ps = known true
target_verdict_at a (name ∷ []) ps = own_verdict_at a (find_at name ps)
target_verdict_at a (name ∷ next ∷ names) ps = inner_verdict_at a (next ∷ names) (find_at name ps)

abbrev pub verdict_at : Option Asked → List (List ℕ) → List Place → Verdict
verdict_at None target ps = known true
verdict_at (Some a) target ps = target_verdict_at a target ps

-- the kind of an instance's component; where nothing is found inside it, it is a field
abbrev pub kind_of_holding : Option Holding → Kind
kind_of_holding None = Field
kind_of_holding (Some h) = h.kind

-- the kind of the component at which these names end, inside an instance that is found, and from a place
abbrev pub kind_from : List (List ℕ) → FoundAt → Option Kind
kind_from [] f = Some (kind_of_holding f.holding)
kind_from (name ∷ names) f = option_and_then (kind_from names) (option_and_then (find_inside name) f.holding)

abbrev pub kind_at : List (List ℕ) → List Place → Option Kind
kind_at [] ps = None
kind_at (name ∷ names) ps = option_and_then (kind_from names) (find_at name ps)
