use Rattle.std.proofs.Common.{◌≡◌, drop, map}
use Rattle.rdl_marks.specs.View.{gone_trace, gone_item}
use Rattle.rdl_renew.specs.Raised.{gone_raises, all_raise}
use Rattle.rdl_renew.proofs.raise.gone_raise.Given as goal

abbrev pub invariant-loop-i : goal.invariant-loop-i
invariant-loop-i l = l.alert ≡ all_raise gone_raises (map gone_trace (drop l.i l.gone)) (map gone_item (drop l.i l.gone))
