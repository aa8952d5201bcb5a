use Rattle.rdl_marks.proofs.Noting.{is_at, inserted}
use Rattle.rdl_marks.proofs.note.note_insert.Goals as goal

pub returns-clause-told : goal.returns-clause-told
returns-clause-told c =
    λ gone. inserted c.args.pieces.now c.go_to.new.self c.put_new.new.self c.args.behind.now c.go_to.new.behind c.args.number
    (is_at c.args.pieces.now c.args.behind.now c.go_to.new.self c.go_to.new.behind c.args.number c.in_ok-go_to.ensures.reaches c.in_ok-go_to.ensures.counted c.in_ok-go_to.ensures.begins)
    (record { before = c.in_ok-put_new.ensures.before; behind = c.in_ok-put_new.ensures.behind }) gone
