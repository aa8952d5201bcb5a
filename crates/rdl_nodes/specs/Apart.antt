-- Spans gone over from the last one to the first, or from the first one on.
-- own: how the code compares spans that mostly stand in order.
use Rattle.std.specs.Prelude.{ℕ, nat_le, Bool, true, List, [], ◌∷◌}
use Rattle.std.specs.List.{list_all}
use Rattle.rdl_seen.specs.declared.values.Access.{Access}
use Rattle.rdl_seen.specs.Fields.{clashes_none}
use Rattle.rdl_seen.specs.Layouts.{Span}

-- none of the spans begins before this
abbrev pub begin_from : ℕ → List Span → Bool
begin_from least spans = list_all (λ (s : Span). nat_le least s.start) spans

-- none of the spans ends behind this
abbrev pub end_by : ℕ → List Span → Bool
end_by high spans = list_all (λ (s : Span). nat_le s.end high) spans

-- the first of these fields clashes with none of the others
abbrev pub first_clashes_none : List Span → List Access → Bool
first_clashes_none [] others = true
first_clashes_none (s ∷ ss) [] = true
first_clashes_none (s ∷ ss) (a ∷ rest) = clashes_none s a ss rest
