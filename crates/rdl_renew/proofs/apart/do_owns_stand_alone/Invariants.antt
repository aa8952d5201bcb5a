use Rattle.std.proofs.Common.{◌≡◌}
use Rattle.std.specs.Prelude.{true}
use Rattle.rdl_renew.specs.Alone.{stands_alone}
use Rattle.rdl_renew.specs.Apart.{is_own}
use Rattle.rdl_renew.proofs.ApartItems.{AllFrom}
use Rattle.rdl_renew.proofs.apart.do_owns_stand_alone.Given as goal

abbrev pub invariant-loop-i : goal.invariant-loop-i
invariant-loop-i l = AllFrom (λ i y. is_own y ≡ true → stands_alone l.body i y ≡ true) l.body 0 l.i
