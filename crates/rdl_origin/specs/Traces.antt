-- What a contract sees of the items of a body of the first map: what became of each of them, and of those inside it.
-- own: SystemRDL 2.0 has no edits.
use Rattle.std.specs.Prelude.{ℕ, zero, suc, ◌+◌, Bool, List, [], ◌∷◌, Option, Some, None, option_and_then}

-- the items, in order: the number that each has in the last map, if it is there; whether a part of its own was changed;
-- whether it was moved; and the items inside it
pub data Traces : Type 0 where
  no_traces : Traces
  trace : (now : Option ℕ) → (is_touched : Bool) → (is_moved : Bool) → (inside : Traces) → (rest : Traces) → Traces

-- how many items there are, those inside included
abbrev pub traces_count : Traces → ℕ
traces_count no_traces = 0
traces_count (trace now is_touched is_moved inside rest) = traces_count inside + 1 + traces_count rest

-- the items inside item i
abbrev pub inside_of : ℕ → Traces → Option Traces
inside_of i no_traces = None
inside_of zero (trace now is_touched is_moved inside rest) = Some inside
inside_of (suc i) (trace now is_touched is_moved inside rest) = inside_of i rest

-- the items, with those inside item i changed, where there is such an item
abbrev pub map_item : ℕ → (Traces → Traces) → Traces → Traces
map_item i f no_traces = no_traces
map_item zero f (trace now is_touched is_moved inside rest) = trace now is_touched is_moved (f inside) rest
map_item (suc i) f (trace now is_touched is_moved inside rest) = trace now is_touched is_moved inside (map_item i f rest)

-- those at the end of a way of numbers, as for a description
abbrev pub traces_at : List ℕ → Traces → Option Traces
traces_at [] t = Some t
traces_at (i ∷ way) t = option_and_then (traces_at way) (inside_of i t)

-- all, with those at the end of a way changed, where they are there
abbrev pub map_inside : List ℕ → (Traces → Traces) → Traces → Traces
map_inside [] f t = f t
map_inside (i ∷ way) f t = map_item i (map_inside way f) t
