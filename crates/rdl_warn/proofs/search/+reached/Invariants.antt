use Rattle.std.proofs.Common.{◌+◌, ◌*◌}
use Rattle.rdl_warn.proofs.search.+reached.Given as goal

abbrev pub decreases-is_reached : goal.decreases-is_reached
decreases-is_reached l = 2 * l.levels + 1

abbrev pub decreases-is_reached_at : goal.decreases-is_reached_at
decreases-is_reached_at l = 2 * l.levels
