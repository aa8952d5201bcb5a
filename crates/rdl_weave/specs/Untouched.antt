-- Which statements no edit touched.
-- own: SystemRDL 2.0 has no edits.
use Rattle.std.specs.Prelude.{ℕ, ◌+◌, Bool, false, ◌&&◌, ◌||◌, not, nat_eq, if◌then◌else◌, List, [], ◌∷◌, ◌++◌, length, Option, Some, None, is_some, slice_get, option_and_then}
use Rattle.std.specs.Option.{option_map_or}
use Rattle.rdl_tree.specs.Items.{Items, no_items, plain, holder, count}
use Rattle.rdl_tree.specs.Weight.{capped}
use Rattle.rdl_origin.specs.Traces.{Traces, no_traces, trace}
use Rattle.rdl_origin.specs.View.{traces_of}
use Rattle.rdl_origin.specs.declared.origin.Origin.{Origin}

-- for each item of a map, in pre-order, how many items it and what is inside it are
abbrev pub sizes_of : Items → List ℕ
sizes_of no_items = []
sizes_of (plain p rest) = capped 1 ∷ sizes_of rest
sizes_of (holder h body rest) = capped (count body + 1) ∷ (sizes_of body ++ sizes_of rest)

-- the item with a number is in the last map, with that number
abbrev pub is_now : ℕ → Option ℕ → Bool
is_now n None = false
is_now n (Some m) = nat_eq m n

-- from the item n of the last map on, what it and what is inside it are ends before the number k
abbrev pub ends_before : (sizes : List ℕ) → (n k : ℕ) → Bool
ends_before sizes n k = option_map_or (λ size. nat_eq k (n + size)) (slice_get sizes n) false

-- The number behind those of these items and of what is inside them, where they stand in the last map from the number on, in this
-- order, and no edit changed any, took any out or put any in.
abbrev pub behind : (sizes : List ℕ) → ℕ → Traces → Option ℕ
behind sizes n no_traces = Some n
behind sizes n (trace now is_touched is_moved inside rest) =
    if is_touched || not (is_now n now) then None
    else option_and_then (λ k. if ends_before sizes n k then behind sizes k rest else None) (behind sizes (n + 1) inside)

-- so do all items of a statement, which are so many
abbrev pub is_untouched : (sizes : List ℕ) → (items : ℕ) → List Origin → Bool
is_untouched sizes items [] = false
is_untouched sizes items (o ∷ os) =
    nat_eq (length (o ∷ os)) items && option_map_or (λ n. is_some (behind sizes n (traces_of (o ∷ os)))) o.now false
