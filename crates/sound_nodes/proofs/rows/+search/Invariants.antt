use Rattle.std.proofs.Common.{◌≡◌, ◌+◌, ◌*◌, [], take, drop, true}
use Rattle.rdl_nodes.specs.Apart.{end_by}
use Rattle.sound_nodes.specs.Rows.{below_instance, rows, searched}
use Rattle.sound_nodes.proofs.rows.+search.Given as goal

abbrev pub decreases-search : goal.decreases-search
decreases-search l = 6 * l.levels + 1

abbrev pub decreases-below_instance : goal.decreases-below_instance
decreases-below_instance l = 6 * l.levels + 2

abbrev pub decreases-seen_row : goal.decreases-seen_row
decreases-seen_row l = 6 * l.levels + 3

abbrev pub decreases-rows : goal.decreases-rows
decreases-rows l = 6 * l.levels + 4

abbrev pub decreases-in_container : goal.decreases-in_container
decreases-in_container l = 6 * l.levels + 5

abbrev pub decreases-in_component : goal.decreases-in_component
decreases-in_component l = 6 * l.levels + 6

abbrev pub invariant-rows-loop-i : goal.invariant-rows-loop-i
invariant-rows-loop-i l = record {
  rows :
      rows (below_instance (searched l.levels l.description.items l.tree) l.description.items l.assigned l.mode l.at) l.at l.apart l.mode [] l.spans l.instances
      ≡ rows (below_instance (searched l.levels l.description.items l.tree) l.description.items l.assigned l.mode l.at) l.at l.apart l.mode (take l.i l.spans) (drop l.i l.spans) (drop l.i l.instances);
  passed : end_by l.high (take l.i l.spans) ≡ true;
}
