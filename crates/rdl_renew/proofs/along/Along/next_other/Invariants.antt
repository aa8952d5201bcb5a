use Rattle.std.proofs.Common.{ℕ, ◌-◌, length}
use Rattle.rdl_marks.specs.View.{in_order}
use Rattle.rdl_renew.specs.Along.{HasPassed}
use Rattle.rdl_renew.proofs.along.Along.next_other.Given as goal

abbrev pub invariant-loop-piece : goal.invariant-loop-piece
invariant-loop-piece l = (i : ℕ) → HasPassed (in_order l.pieces) l.behind l.fn.self i → HasPassed (in_order l.pieces) l.behind l.self i

abbrev pub decreases-loop-piece : goal.decreases-loop-piece
decreases-loop-piece l = length (in_order l.pieces) - l.self.pieces
