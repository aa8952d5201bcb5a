use Rattle.rdl_renew.specs.Apart.{IsApart}
use Rattle.rdl_renew.proofs.ApartItems.{AllFrom}
use Rattle.rdl_renew.proofs.apart.are_apart.Given as goal

abbrev pub invariant-loop-i : goal.invariant-loop-i
invariant-loop-i l = AllFrom (IsApart l.body) l.body l.from l.i
