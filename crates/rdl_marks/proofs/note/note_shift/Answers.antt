use Rattle.rdl_marks.specs.Cut.{the_trace}
use Rattle.rdl_marks.proofs.Noting.{is_at, is_taken, single_put, shifted}
use Rattle.rdl_marks.proofs.note.note_shift.Goals as goal

pub returns-clause-told : goal.returns-clause-told
returns-clause-told c =
    λ gone. shifted c.args.pieces.now c.take.new.self c.go_to.new.self c.put.new.self c.args.behind.now c.take.new.behind c.go_to.new.behind c.args.from c.args.to c.in_ok-piece.piece c.note_moved.new.piece
    (is_taken c.args.pieces.now c.args.behind.now c.take.new.self c.take.new.behind c.args.from (the_trace c.in_ok-piece.piece) c.in_ok-piece.ensures.reaches c.in_ok-piece.ensures.counted c.in_ok-piece.ensures.begins)
    c.note_moved.ensures.trace
    (is_at c.take.new.self c.take.new.behind c.go_to.new.self c.go_to.new.behind c.args.to c.in_ok-go_to.ensures.reaches c.in_ok-go_to.ensures.counted c.in_ok-go_to.ensures.begins)
    (single_put c.go_to.new.self c.put.new.self c.note_moved.new.piece c.note_moved.ensures.alone c.in_ok-put.ensures.before c.in_ok-put.ensures.behind) gone
