use Rattle.std.proofs.Common.{◌≡◌, length}
use Rattle.rdl_marks.specs.Cut.{traces_behind}
use Rattle.rdl_marks.proofs.pieces.pop_some.Given as goal

abbrev pub invariant-loop-piece : goal.invariant-loop-piece
invariant-loop-piece l = traces_behind l.initial.back.items ≡ traces_behind l.back.items

abbrev pub decreases-loop-piece : goal.decreases-loop-piece
decreases-loop-piece l = length l.back.items
