use Rattle.std.proofs.Common.{length}
use Rattle.rdl_tree.proofs.find.+item_at.Given as goal

abbrev pub decreases-item_at : goal.decreases-item_at
decreases-item_at l = length l.path.now
