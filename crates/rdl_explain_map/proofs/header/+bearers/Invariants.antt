use Rattle.std.proofs.Common.{◌+◌, ◌*◌}
use Rattle.rdl_explain_map.proofs.header.+bearers.Given as goal

abbrev pub decreases-bearers_below : goal.decreases-bearers_below
decreases-bearers_below l = 2 * l.levels + 1

abbrev pub decreases-add_bearers : goal.decreases-add_bearers
decreases-add_bearers l = 2 * l.levels
