use Rattle.std.proofs.Common.{◌≡◌, length}
use Rattle.rdl_diff.specs.Renames.{have_same_inside}
use Rattle.rdl_diff.proofs.rename.have_same_inside.Given as goal

abbrev pub invariant-rows : goal.invariant-rows
invariant-rows l = have_same_inside l.fn.depth l.old l.new ≡ have_same_inside l.fn.depth l.old_rest l.new_rest

abbrev pub decreases-rows : goal.decreases-rows
decreases-rows l = length l.old_rest
