use Rattle.std.proofs.Common.{◌≡◌, ◌++◌, true}
use Rattle.std.specs.Fmt.{digits}
use Rattle.rdl_write.proofs.backwards.Backwards.put_digits.Given as goal

abbrev pub invariant-digits : goal.invariant-digits
invariant-digits l = digits 16 true l.left ++ l.self ≡ digits 16 true l.number ++ l.initial.self

abbrev pub decreases-digits : goal.decreases-digits
decreases-digits l = l.left
