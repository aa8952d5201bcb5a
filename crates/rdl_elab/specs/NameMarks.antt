-- A test by which most names are told from those that are looked up.
-- own: how instances are looked up by their names.
use Rattle.std.specs.Prelude.{ℕ, ◌+◌, ◌-◌, ◌*◌, ◌/◌, ◌%◌, ◌^◌, ◌==◌, Bool, false, List, length, Option, None, Some, slice_get, slice_index}

-- the number of the bit of a name, by its last three bytes
abbrev pub place_of : List ℕ → ℕ
place_of q = (slice_index q (length q - 1) + 10 * slice_index q (length q - 2) + 100 * slice_index q (length q - 3)) % 1024

-- the bit of this number is set
abbrev pub has_bit : Option ℕ → ℕ → Bool
has_bit None bit = false
has_bit (Some word) bit = (word / 2 ^ bit) % 2 == 1

-- these words have the bit of the name
abbrev pub is_marked : List ℕ → List ℕ → Bool
is_marked words q = has_bit (slice_get words (place_of q / 64)) (place_of q % 64)
