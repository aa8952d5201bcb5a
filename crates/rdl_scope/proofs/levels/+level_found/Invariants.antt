use Rattle.std.proofs.Common.{length}
use Rattle.rdl_scope.proofs.levels.+level_found.Given as goal

abbrev pub decreases-level_found : goal.decreases-level_found
decreases-level_found l = length l.levels.now
