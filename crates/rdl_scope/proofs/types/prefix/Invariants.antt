use Rattle.std.proofs.Common.{◌≡◌, take}
use Rattle.rdl_scope.proofs.types.prefix.Given as goal

abbrev pub invariant-loop-i : goal.invariant-loop-i
invariant-loop-i l = l.address ≡ take l.i l.path
