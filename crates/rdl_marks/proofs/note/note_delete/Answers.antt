use Rattle.rdl_marks.specs.Cut.{the_trace}
use Rattle.rdl_marks.proofs.Noting.{is_taken, deleted}
use Rattle.rdl_marks.proofs.note.note_delete.Goals as goal

pub returns-clause-told : goal.returns-clause-told
returns-clause-told c =
    deleted c.args.pieces.now c.take.new.self c.args.behind.now c.take.new.behind c.args.number c.args.gone.now.items c.note_gone.new.gone.items c.in_ok-piece.piece c.args.item.now
    (is_taken c.args.pieces.now c.args.behind.now c.take.new.self c.take.new.behind c.args.number (the_trace c.in_ok-piece.piece) c.in_ok-piece.ensures.reaches c.in_ok-piece.ensures.counted c.in_ok-piece.ensures.begins)
    c.in_ok-note_gone.ensures
