use Rattle.std.proofs.Common.{drop}
use Rattle.rdl_origin.proofs.Backs.{IsOnWay}
use Rattle.rdl_origin.proofs.origin.Origins.go_back.Given as goal

abbrev pub invariant-patches : goal.invariant-patches
invariant-patches l = IsOnWay l.step l.initial.self l.self (drop l.patch-index l.step)
