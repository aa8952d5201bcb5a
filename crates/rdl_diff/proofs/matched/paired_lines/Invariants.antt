use Rattle.std.proofs.Common.{◌≡◌, ◌++◌, length}
use Rattle.rdl_diff.specs.Paired.{paired_lines}
use Rattle.rdl_diff.specs.Seen.{lines_seen}
use Rattle.rdl_diff.proofs.matched.paired_lines.Given as goal

abbrev pub invariant-rows : goal.invariant-rows
invariant-rows l = lines_seen l.lines.items ++ paired_lines l.choice l.old_rest l.new_rest ≡ paired_lines l.choice l.fn.old l.fn.new

abbrev pub decreases-rows : goal.decreases-rows
decreases-rows l = length l.old_rest
