use Rattle.std.proofs.Common.{◌≡◌}
use Rattle.std.specs.Prelude.{false}
use Rattle.rdl_renew.specs.Apart.{is_own}
use Rattle.rdl_renew.proofs.ApartItems.{AllFrom}
use Rattle.rdl_renew.proofs.apart.has_own.Given as goal

abbrev pub invariant-loop-i : goal.invariant-loop-i
invariant-loop-i l = AllFrom (λ i y. is_own y ≡ false) l.body l.from l.i
