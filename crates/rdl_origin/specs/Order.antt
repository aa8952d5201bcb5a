-- Items that weren't moved stand in the order of their numbers, in each body.
-- own: SystemRDL 2.0 has no edits.
use Rattle.std.specs.Prelude.{ℕ, ◌<◌, ◌++◌, Bool, true, false, List, [], ◌∷◌, Option, Some, None}
use Rattle.rdl_origin.specs.Traces.{Traces, no_traces, trace}

-- the number of an item, if it has one and wasn't moved
abbrev pub number_unmoved : (now : Option ℕ) → (is_moved : Bool) → List ℕ
number_unmoved None is_moved = []
number_unmoved (Some n) true = []
number_unmoved (Some n) false = n ∷ []

-- the numbers of the items of a body that weren't moved
abbrev pub unmoved : Traces → List ℕ
unmoved no_traces = []
unmoved (trace now is_touched is_moved inside rest) = number_unmoved now is_moved ++ unmoved rest

abbrev pub IsBelow : ℕ → List ℕ → Type 0
IsBelow n [] = Unit {0}
IsBelow n (m ∷ ms) = (n < m) × IsBelow n ms

abbrev pub AreBelow : List ℕ → List ℕ → Type 0
AreBelow [] ms = Unit {0}
AreBelow (n ∷ ns) ms = IsBelow n ms × AreBelow ns ms

abbrev pub AreInOrder : Traces → Type 0
AreInOrder no_traces = Unit {0}
AreInOrder (trace now is_touched is_moved inside rest) =
    AreBelow (number_unmoved now is_moved) (unmoved rest) × AreInOrder inside × AreInOrder rest
