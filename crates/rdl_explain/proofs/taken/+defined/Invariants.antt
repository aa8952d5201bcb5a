use Rattle.std.proofs.Common.{◌+◌, ◌*◌}
use Rattle.rdl_explain.proofs.taken.+defined.Given as goal

abbrev pub decreases-defined_in : goal.decreases-defined_in
decreases-defined_in l = 2 * l.levels + 1

abbrev pub decreases-defined_at : goal.decreases-defined_at
decreases-defined_at l = 2 * l.levels
