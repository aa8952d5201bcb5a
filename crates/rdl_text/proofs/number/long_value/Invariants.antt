-- The digits so far are worth the number so far, and it has its bits.
use Rattle.std.proofs.Common.{◌≡◌, ◌<◌, ◌^◌, drop, not}
use Rattle.std.specs.List.{filter}
use Rattle.std.specs.Str.Parse.{digits_value_after}
use Rattle.rdl_text.specs.Number.{number_bits, is_underscore}
use Rattle.rdl_text.proofs.number.long_value.Given as goal

abbrev pub invariant-digits : goal.invariant-digits
invariant-digits l =
    (l.value < 2 ^ number_bits)
    × (digits_value_after l.base l.value (filter (λ c. not (is_underscore c)) (drop l.byte-index l.digits))
    ≡ digits_value_after l.base 0 (filter (λ c. not (is_underscore c)) l.digits))
