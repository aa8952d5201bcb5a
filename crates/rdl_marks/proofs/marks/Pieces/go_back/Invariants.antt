use Rattle.std.proofs.Common.{◌≡◌, length}
use Rattle.rdl_marks.specs.View.{IsCounted}
use Rattle.rdl_marks.specs.Cut.{traces_in}
use Rattle.rdl_marks.proofs.marks.Pieces.go_back.Given as goal

abbrev pub invariant-loop-self : goal.invariant-loop-self
invariant-loop-self l = record { counted : IsCounted l.self; same : traces_in l.self ≡ traces_in l.initial.self }

abbrev pub decreases-loop-self : goal.decreases-loop-self
decreases-loop-self l = length l.self.front.items
