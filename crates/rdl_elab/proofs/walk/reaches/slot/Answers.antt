use Rattle.std.proofs.Common.{sym}
use Rattle.std.proofs.Math.Nat.{mod-eq_of_lt}
use Rattle.rdl_elab.proofs.walk.reaches.slot.Goals as goal

pub returns-then-number-slots : goal.returns-then-number-slots
returns-then-number-slots c = sym (mod-eq_of_lt c.if-number-slots.true)
