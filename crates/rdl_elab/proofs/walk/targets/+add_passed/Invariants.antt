use Rattle.std.proofs.Common.{length}
use Rattle.rdl_elab.proofs.walk.targets.+add_passed.Given as goal

abbrev pub decreases-add_passed : goal.decreases-add_passed
decreases-add_passed l = length l.names.now
