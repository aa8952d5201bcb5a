-- What is left of a script while its lines are taken. Own.
use Rattle.std.specs.Prelude.{ℕ, ◌+◌, Bool, not, nat_eq, List, length, Option, None, Some}

abbrev pub is_in_line : ℕ → Bool
is_in_line c = not (nat_eq c 10)

-- how many bytes and line ends there may still be
abbrev pub left_len : Option (List ℕ) → ℕ
left_len None = 0
left_len (Some bytes) = length bytes + 1
