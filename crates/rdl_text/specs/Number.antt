-- The value of the digits of a number.
-- SystemRDL 2.0, lexical conventions, numbers; the limit of 128 bits is own.
use Rattle.std.specs.Prelude.{ℕ, ◌^◌, Bool, not, nat_eq, nat_lt, if◌then◌else◌, List, Option, Some, None}
use Rattle.std.specs.List.{filter}
use Rattle.std.specs.Str.Parse.{digits_value}

-- the bits of a number
abbrev pub number_bits : ℕ
number_bits = 128

abbrev pub is_underscore : ℕ → Bool
is_underscore c = nat_eq c 95

-- what digits in a base and `_` are worth; `_` has no meaning
unfoldable pub value : (base : ℕ) → List ℕ → ℕ
value base digits = digits_value base (filter (λ c. not (is_underscore c)) digits)

-- the number, where its bits suffice
abbrev pub in_bits : ℕ → Option ℕ
in_bits v = if nat_lt v (2 ^ number_bits) then Some v else None
