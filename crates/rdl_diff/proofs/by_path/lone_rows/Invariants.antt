use Rattle.std.proofs.Common.{◌≡◌, ◌++◌, length}
use Rattle.rdl_diff.specs.ByPath.{path_in, row_under}
use Rattle.rdl_diff.specs.ByPlace.{all_standing}
use Rattle.rdl_diff.specs.Renames.{lone}
use Rattle.rdl_diff.proofs.by_path.lone_rows.Given as goal

abbrev pub invariant-rows : goal.invariant-rows
invariant-rows l = all_standing l.alone.items ++ lone (path_in l.paths) (row_under l.others) l.rest ≡ lone (path_in l.paths) (row_under l.others) l.rows

abbrev pub decreases-rows : goal.decreases-rows
decreases-rows l = length l.rest
