use Rattle.std.proofs.Common.{length}
use Rattle.rdl_scope.proofs.values.+nearest_default.Given as goal

abbrev pub decreases-nearest_default : goal.decreases-nearest_default
decreases-nearest_default l = length l.path.now
