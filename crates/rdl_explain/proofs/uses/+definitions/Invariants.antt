use Rattle.std.proofs.Common.{◌+◌, ◌*◌}
use Rattle.rdl_explain.proofs.uses.+definitions.Given as goal

abbrev pub decreases-definitions : goal.decreases-definitions
decreases-definitions l = 2 * l.levels + 1

abbrev pub decreases-definitions_in : goal.decreases-definitions_in
decreases-definitions_in l = 2 * l.levels
