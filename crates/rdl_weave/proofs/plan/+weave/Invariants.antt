use Rattle.std.proofs.Common.{◌+◌, ◌*◌}
use Rattle.rdl_weave.proofs.plan.+weave.Given as goal

abbrev pub decreases-weave_body : goal.decreases-weave_body
decreases-weave_body l = 5 * l.levels + 4

abbrev pub decreases-units : goal.decreases-units
decreases-units l = 5 * l.levels + 3

abbrev pub decreases-changed_unit : goal.decreases-changed_unit
decreases-changed_unit l = 5 * l.levels + 2

abbrev pub decreases-joins : goal.decreases-joins
decreases-joins l = 5 * l.levels + 1

abbrev pub decreases-body : goal.decreases-body
decreases-body l = 5 * l.levels
