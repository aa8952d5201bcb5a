use Rattle.std.proofs.Common.{◌≡◌}
use Rattle.rdl_places.specs.LastNumbers.{last_sought}
use Rattle.rdl_places.proofs.numbers.last_sought.Given as goal

abbrev pub invariant-loop-number : goal.invariant-loop-number
invariant-loop-number l = last_sought l.sought l.name l.count l.body ≡ last_sought l.sought l.name l.number l.body
