-- Identifiers: a letter or `_`, then letters, digits and `_`; ASCII, at most 255 bytes.
-- SystemRDL 2.0, lexical conventions, identifiers; the limit is own.
use Rattle.std.specs.Prelude.{ℕ, ◌≤◌, Bool, false, ◌||◌, ◌&&◌, nat_le, nat_eq, IsTrue, List, [], ◌∷◌, length}
use Rattle.std.specs.List.{list_all}

abbrev pub is_letter : ℕ → Bool
is_letter c = (nat_le 65 c && nat_le c 90) || (nat_le 97 c && nat_le c 122) || nat_eq c 95

-- a letter, a digit or `_`
abbrev pub is_rest : ℕ → Bool
is_rest c = is_letter c || (nat_le 48 c && nat_le c 57)

abbrev pub is_identifier : List ℕ → Bool
is_identifier [] = false
is_identifier (c ∷ cs) = is_letter c && list_all is_rest cs

pub record IsName (bytes : List ℕ) : Type 0 where
  pub short : length bytes ≤ 255
  pub identifier : IsTrue (is_identifier bytes)
