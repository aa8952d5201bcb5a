-- No two items of a body have the same number.
-- own: SystemRDL 2.0 has no edits.
use Rattle.std.specs.Prelude.{◌≡◌, ℕ, ◌++◌, List, [], ◌∷◌, Option, Some, None}
use Rattle.rdl_origin.specs.Traces.{Traces, no_traces, trace}

-- the number, if there is one
abbrev pub number_list : Option ℕ → List ℕ
number_list None = []
number_list (Some n) = n ∷ []

-- the numbers of the items of a body
abbrev pub numbers : Traces → List ℕ
numbers no_traces = []
numbers (trace now is_touched is_moved inside rest) = number_list now ++ numbers rest

-- the number is none of these
abbrev pub Lacks : List ℕ → ℕ → Type 0
Lacks [] n = Unit {0}
Lacks (m ∷ ms) n = (m ≡ n → ⊥) × Lacks ms n

abbrev pub LacksAll : List ℕ → List ℕ → Type 0
LacksAll ms [] = Unit {0}
LacksAll ms (n ∷ ns) = Lacks ms n × LacksAll ms ns

abbrev pub StandOnce : Traces → Type 0
StandOnce no_traces = Unit {0}
StandOnce (trace now is_touched is_moved inside rest) = LacksAll (numbers rest) (number_list now) × StandOnce inside × StandOnce rest
