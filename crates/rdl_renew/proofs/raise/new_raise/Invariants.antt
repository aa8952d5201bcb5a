use Rattle.std.proofs.Common.{◌≡◌, drop}
use Rattle.rdl_renew.specs.Raised.{new_raise}
use Rattle.rdl_renew.proofs.raise.new_raise.Given as goal

abbrev pub invariant-loop-i : goal.invariant-loop-i
invariant-loop-i l = l.alert ≡ new_raise (drop l.i l.items)
