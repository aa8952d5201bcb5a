-- The inside of a string: every quote in it is taken by the backslash before it, and no backslash is left to take the closing quote.
-- SystemRDL 2.0, lexical conventions, strings.
use Rattle.std.specs.Prelude.{ℕ, Bool, true, false, not, ◌&&◌, nat_eq, IsTrue, List, [], ◌∷◌}

-- whether a text may end right behind these bytes; `taken` says that a backslash takes the first of them
abbrev pub is_inside : Bool → List ℕ → Bool
is_inside taken [] = not taken
is_inside true (c ∷ cs) = is_inside false cs
is_inside false (c ∷ cs) = not (nat_eq c 34) && is_inside (nat_eq c 92) cs

pub record IsRaw (bytes : List ℕ) : Type 0 where
  pub inside : IsTrue (is_inside false bytes)
