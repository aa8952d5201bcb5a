use Rattle.std.proofs.Common.{drop}
use Rattle.rdl_nodes.specs.Folded.{AreInside}
use Rattle.rdl_nodes.specs.View.{slots_of}
use Rattle.rdl_nodes.proofs.contents.Contents.of.Given as goal

abbrev pub invariant-loop-i : goal.invariant-loop-i
invariant-loop-i l = AreInside l.contents (slots_of (drop l.i l.slots))
