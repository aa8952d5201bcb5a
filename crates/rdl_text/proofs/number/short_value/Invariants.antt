-- The digits so far are worth the number so far.
use Rattle.std.proofs.Common.{◌≡◌, drop}
use Rattle.rdl_text.specs.Number.{value}
use Rattle.rdl_text.proofs.Numbers.{value_after}
use Rattle.rdl_text.proofs.number.short_value.Given as goal

abbrev pub invariant-digits : goal.invariant-digits
invariant-digits l = value_after l.base l.value (drop l.byte-index l.digits) ≡ value l.base l.digits
