use Rattle.std.proofs.Common.{length}
use Rattle.sound_nodes.proofs.reached.+defaults_at.Given as goal

abbrev pub decreases-defaults_at : goal.decreases-defaults_at
decreases-defaults_at l = length l.path.now
