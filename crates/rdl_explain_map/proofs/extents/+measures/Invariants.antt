use Rattle.std.proofs.Common.{◌+◌, ◌*◌}
use Rattle.rdl_explain_map.proofs.extents.+measures.Given as goal

abbrev pub decreases-member_measure : goal.decreases-member_measure
decreases-member_measure l = 3 * l.levels

abbrev pub decreases-component_measure : goal.decreases-component_measure
decreases-component_measure l = 3 * l.levels + 2

abbrev pub decreases-extents_below : goal.decreases-extents_below
decreases-extents_below l = 3 * l.levels + 1
