use Rattle.std.proofs.Common.{◌+◌, ◌*◌}
use Rattle.rdl_explain.proofs.uses.+uses.Given as goal

abbrev pub decreases-count_body : goal.decreases-count_body
decreases-count_body l = 2 * l.levels + 1

abbrev pub decreases-count_item : goal.decreases-count_item
decreases-count_item l = 2 * l.levels
