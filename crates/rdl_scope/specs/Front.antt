-- The front of a name: a number by which two names are mostly told apart, so that their bytes are seldom compared.
-- own: no part of what a name is; the maps by name keep it beside the name.
use Rattle.std.specs.Prelude.{ℕ, ◌+◌, ◌*◌, ◌^◌, ◌%◌, List}
use Rattle.std.specs.List.{fold}
use Rattle.std.specs.Cmp.Lexicographic.{slice_cmp}
use Rattle.std.specs.Ordering.{nat_cmp, ordering_then}
use Rattle.std.specs.declared.cmp.Ordering.{Ordering}
use denote.Ref.{Bor}

-- the number of some bytes, with one more behind them
abbrev pub with_byte : ℕ → ℕ → ℕ
with_byte n byte = (((n * 131) % 2 ^ 64) + byte) % 2 ^ 64

-- the number of a name: its bytes to the base 131, which is greater than each byte of a name, so far as a `u64` holds it
abbrev pub front : List ℕ → ℕ
front q = fold with_byte 0 q

-- a name compared to a key of a map by name: by their fronts, and where these are equal by their bytes
abbrev pub name_cmp : List ℕ → ℕ × Bor (List ℕ) → Ordering
name_cmp q k = ordering_then (nat_cmp (front q) k.0) (slice_cmp nat_cmp q k.1.now)

-- ---- Assignments.

abbrev pub front_with : ℕ → List ℕ → ℕ
front_with n name = (((n * 257) % 2 ^ 64) + front name) % 2 ^ 64

-- a number by which two assignments are mostly told apart: that of the names of the target, and then of the property
unfoldable pub assigned_front : List (List ℕ) → List ℕ → ℕ
assigned_front t p = front_with (fold front_with 0 t) p
