use Rattle.std.proofs.Common.{length}
use Rattle.rdl_scope.proofs.places.+item_along.Given as goal

abbrev pub decreases-item_along : goal.decreases-item_along
decreases-item_along l = length l.path.now
