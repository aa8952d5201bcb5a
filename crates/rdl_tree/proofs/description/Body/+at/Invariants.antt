use Rattle.std.proofs.Common.{length}
use Rattle.rdl_tree.proofs.description.Body.+at.Given as goal

abbrev pub decreases-at : goal.decreases-at
decreases-at l = length l.path.now
