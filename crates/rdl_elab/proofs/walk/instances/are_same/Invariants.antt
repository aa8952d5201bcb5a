use Rattle.std.proofs.Common.{drop}
use Rattle.rdl_elab.proofs.Insides.{AreSame}
use Rattle.rdl_elab.proofs.walk.instances.are_same.Given as goal

abbrev pub invariant-loop-part : goal.invariant-loop-part
invariant-loop-part l = AreSame l.components (drop l.part-index l.parts) → AreSame l.components l.parts
