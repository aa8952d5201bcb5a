use Rattle.std.proofs.Common.{sym, ◌∙◌}
use Rattle.rdl_marks.specs.Cut.{traces_before, traces_behind, traces_in}
use Rattle.rdl_marks.proofs.Cuts.{taken_here, taken_behind}
use Rattle.rdl_marks.proofs.marks.Pieces.take.Goals as goal

pub returns-in-Some-clause-reaches : goal.returns-in-Some-clause-reaches
returns-in-Some-clause-reaches c =
    taken_here (traces_in c.args.self.now) (traces_before c.go_to.new.self) (traces_behind c.go_to.new.self.back.items) (traces_behind c.pop_first.new.back.items) c.args.behind.now c.go_to.new.behind c.args.number
    c.in_ok-piece.field-0 c.in-Some.piece c.in_ok-go_to.ensures.reaches (sym c.in_ok-go_to.ensures.counted ∙ c.in_ok-go_to.ensures.begins) c.in_ok-piece.ensures.same c.in-Some.is c.in_ok-piece.ensures.alone

pub returns-in_ok-piece-in-None-clause-reaches : goal.returns-in_ok-piece-in-None-clause-reaches
returns-in_ok-piece-in-None-clause-reaches c =
    taken_behind (traces_in c.args.self.now) (traces_before c.go_to.new.self) (traces_behind c.go_to.new.self.back.items) c.pop_first.new.back.items c.args.behind.now c.go_to.new.behind c.pop_behind.new.behind c.args.number
    c.in_ok-piece.field-0 c.in_ok-piece-in-None.piece c.in_ok-go_to.ensures.reaches (sym c.in_ok-go_to.ensures.counted ∙ c.in_ok-go_to.ensures.begins) c.in_ok-piece.ensures.same c.in-None.is c.in_ok-piece.ensures.none
    c.in_ok-piece-in-None.ensures.alone c.in_ok-piece-in-None.ensures.told c.in_ok-piece-in-None.ensures.more
