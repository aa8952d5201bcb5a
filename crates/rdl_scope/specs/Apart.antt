-- What tells names apart at once.
-- own: SystemRDL 2.0 compares names whole.
use Rattle.std.specs.Prelude.{ℕ, ◌-◌, List, length, slice_index}

-- 0 of the empty text
abbrev pub last_byte : List ℕ → ℕ
last_byte text = slice_index text (length text - 1)
