use Rattle.std.proofs.Common.{◌≡◌, length}
use Rattle.rdl_diff.specs.Paired.{have_same_paths}
use Rattle.rdl_diff.proofs.matched.have_same_paths.Given as goal

abbrev pub invariant-rows : goal.invariant-rows
invariant-rows l = have_same_paths l.old_rest l.new_rest ≡ have_same_paths l.fn.old l.fn.new

abbrev pub decreases-rows : goal.decreases-rows
decreases-rows l = length l.old_rest
