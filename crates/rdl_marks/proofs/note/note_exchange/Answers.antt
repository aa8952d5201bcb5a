use Rattle.std.proofs.Common.{◌-◌, ap}
use Rattle.rdl_marks.specs.Noted.{exchanged}
use Rattle.rdl_marks.proofs.Noting.{is_held, held_counted, changed_held}
use Rattle.rdl_marks.proofs.note.note_exchange.Goals as goal

pub returns-clause-counted : goal.returns-clause-counted
returns-clause-counted c =
    let last = c.len-last.result - 1 in
    held_counted c.args.pieces.now c.args.behind.now c.hold.new.self c.hold.new.behind c.args.number last c.index_mut.result.now c.note_part.new.piece
    (is_held c.args.pieces.now c.args.behind.now c.hold.new.self c.hold.new.behind c.args.number last c.index_mut.result.now c.in_ok-hold.ensures.reaches c.in_ok-hold.ensures.counted c.in_ok-hold.ensures.begins
    c.in_ok-hold.ensures.some c.in_ok-hold.ensures.alone (ap (λ n. n - 1) c.len-last.ensures) c.index_mut.ensures.value) c.note_part.ensures.alone c.in_ok-hold.ensures.begins

pub returns-clause-told : goal.returns-clause-told
returns-clause-told c =
    let last = c.len-last.result - 1 in
    changed_held (exchanged c.args.old.now) c.args.pieces.now c.args.behind.now c.hold.new.self c.hold.new.behind c.args.number last c.index_mut.result.now c.note_part.new.piece
    (is_held c.args.pieces.now c.args.behind.now c.hold.new.self c.hold.new.behind c.args.number last c.index_mut.result.now c.in_ok-hold.ensures.reaches c.in_ok-hold.ensures.counted c.in_ok-hold.ensures.begins
    c.in_ok-hold.ensures.some c.in_ok-hold.ensures.alone (ap (λ n. n - 1) c.len-last.ensures) c.index_mut.ensures.value) c.note_part.ensures.alone c.note_part.ensures.trace
