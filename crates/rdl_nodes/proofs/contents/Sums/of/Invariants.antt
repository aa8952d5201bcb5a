use Rattle.std.proofs.Common.{drop}
use Rattle.rdl_nodes.specs.SameInside.{AreSums}
use Rattle.rdl_nodes.specs.View.{slots_of}
use Rattle.rdl_nodes.proofs.contents.Sums.of.Given as goal

abbrev pub invariant-loop-i : goal.invariant-loop-i
invariant-loop-i l = AreSums l.sums (slots_of (drop l.i l.slots))
