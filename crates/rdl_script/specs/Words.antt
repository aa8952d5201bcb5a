-- The words of a line: blanks at its ends are dropped, and spaces and tabs part the words between. Own.
use Rattle.std.specs.Prelude.{ℕ, ◌-◌, Bool, not, ◌&&◌, ◌||◌, nat_eq, nat_lt, List, take, drop, reverse, length}
use Rattle.std.specs.List.{prefix_len}

-- space, tab, line feed, vertical tab, form feed, carriage return
abbrev pub is_blank : ℕ → Bool
is_blank c = nat_eq c 32 || (nat_lt 8 c && nat_lt c 14)

abbrev pub is_space : ℕ → Bool
is_space c = nat_eq c 32 || nat_eq c 9

abbrev pub is_part : ℕ → Bool
is_part c = not (is_space c)

abbrev pub is_empty : List ℕ → Bool
is_empty xs = nat_eq (length xs) 0

abbrev pub without_front : (ℕ → Bool) → List ℕ → List ℕ
without_front p xs = drop (prefix_len p xs) xs

abbrev pub without_back : (ℕ → Bool) → List ℕ → List ℕ
without_back p xs = take (length xs - prefix_len p (reverse xs)) xs

unfoldable pub trimmed : List ℕ → List ℕ
trimmed line = without_back is_blank (without_front is_blank line)

unfoldable pub first_word : List ℕ → List ℕ
first_word xs = take (prefix_len is_part xs) xs

unfoldable pub behind_word : List ℕ → List ℕ
behind_word xs = without_front is_space (drop (prefix_len is_part xs) xs)
