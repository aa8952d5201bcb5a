use Rattle.std.proofs.Common.{◌≡◌, ◌-◌, ◌≤◌, length}
use Rattle.rdl_session.specs.Reading.{address_in}
use Rattle.rdl_session.proofs.Cuts.{ahead}
use Rattle.rdl_session.proofs.parts.address.Given as goal

abbrev pub invariant-numbers : goal.invariant-numbers
invariant-numbers l = record { short : length l.address ≤ 17; told : ahead l.address (address_in (17 - length l.address) l.rest) ≡ address_in 17 l.fn.bytes }

abbrev pub decreases-numbers : goal.decreases-numbers
decreases-numbers l = length l.rest
