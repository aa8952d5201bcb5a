use Rattle.std.proofs.Common.{◌≤◌, length, drop}
use Rattle.rdl_weave.specs.Standing.{AreBlanks}
use Rattle.rdl_weave.proofs.stands.before_blanks.Given as goal

abbrev pub invariant-blanks : goal.invariant-blanks
invariant-blanks l = (l.end ≤ length l.bytes) × AreBlanks (drop l.end l.bytes)

abbrev pub decreases-blanks : goal.decreases-blanks
decreases-blanks l = l.end
