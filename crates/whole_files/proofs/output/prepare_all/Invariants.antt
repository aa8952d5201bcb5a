use Rattle.whole_files.specs.Outputs.{AreOf}
use Rattle.whole_files.proofs.output.prepare_all.Given as goal

abbrev pub invariant-outputs : goal.invariant-outputs
invariant-outputs g l = AreOf l.outputs l.fn.waiting.items → AreOf l.outputs l.waiting.items
