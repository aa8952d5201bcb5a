-- The line and the column of a byte of a text, both counted from 1, and columns in bytes.
-- Own.
use Rattle.std.specs.Prelude.{ℕ, ◌+◌, not, nat_eq, List, take, reverse}
use Rattle.std.specs.List.{prefix_len, count_by}

-- how many line feeds stand before it
abbrev pub line : List ℕ → (offset : ℕ) → ℕ
line text offset = 1 + count_by (λ c. nat_eq c 10) (take offset text)

-- how many bytes stand between the last line feed before it and itself
abbrev pub column : List ℕ → (offset : ℕ) → ℕ
column text offset = 1 + prefix_len (λ c. not (nat_eq c 10)) (reverse (take offset text))
