use Rattle.std.proofs.Common.{length}
use Rattle.rdl_scope.proofs.places.+body_along.Given as goal

abbrev pub decreases-body_along : goal.decreases-body_along
decreases-body_along l = length l.path.now
