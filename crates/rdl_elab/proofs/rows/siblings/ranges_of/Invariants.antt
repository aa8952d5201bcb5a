use Rattle.std.proofs.Common.{take}
use Rattle.rdl_elab.specs.SiblingRanges.{AreApart, AreRangesIfKept}
use Rattle.rdl_elab.proofs.rows.siblings.ranges_of.Given as goal

abbrev pub invariant-loop-sibling : goal.invariant-loop-sibling
invariant-loop-sibling l = AreApart l.siblings → AreRangesIfKept l.ranges (take l.sibling-index l.siblings)
