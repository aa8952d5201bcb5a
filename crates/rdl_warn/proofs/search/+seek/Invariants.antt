use Rattle.std.proofs.Common.{◌+◌, ◌*◌}
use Rattle.rdl_warn.proofs.search.+seek.Given as goal

abbrev pub decreases-seek : goal.decreases-seek
decreases-seek l = 2 * l.levels + 1

abbrev pub decreases-seek_item : goal.decreases-seek_item
decreases-seek_item l = 2 * l.levels
