use Rattle.std.proofs.Common.{◌-◌, ap}
use Rattle.rdl_tree.proofs.Steps.{first, others}
use Rattle.rdl_marks.specs.View.{in_order, told}
use Rattle.rdl_marks.specs.Noted.{changed_inside, here, marks_at}
use Rattle.rdl_marks.proofs.Noting.{changed, is_held, held_counted, changed_held}
use Rattle.rdl_marks.proofs.Ways.{noted_at_end, noted_deeper}
use Rattle.rdl_marks.proofs.+note.Goals as goal

pub marks::BodyMarks::note_at-returns-in_ok-note_here-in-empty : goal.marks::BodyMarks::note_at-returns-in_ok-note_here-in-empty
marks::BodyMarks::note_at-returns-in_ok-note_here-in-empty t c =
    noted_at_end c.args.back.now c.args.number c.args.way.now c.args.self.now (told (in_order c.self.inside.pieces) c.self.inside.behind c.self.inside.gone.items) (told (in_order c.note_here.new.pieces) c.note_here.new.behind c.note_here.new.gone.items)
    c.in-empty.len_below c.self.view_is c.in_ok-note_here-in-empty.ensures.told

pub marks::BodyMarks::note_at-invariant_of-self-in_err-note_inside-in-len1-up : goal.marks::BodyMarks::note_at-invariant_of-self-in_err-note_inside-in-len1-up
marks::BodyMarks::note_at-invariant_of-self-in_err-note_inside-in-len1-up t c =
    let last = c.len-last.result - 1 in
    held_counted c.self.inside.pieces c.self.inside.behind c.hold.new.self c.hold.new.behind (first c.args.way.now) last c.index_mut.result.now c.note_inside.new.piece
    (is_held c.self.inside.pieces c.self.inside.behind c.hold.new.self c.hold.new.behind (first c.args.way.now) last c.index_mut.result.now c.in_ok-hold-in-len1-up.ensures.reaches c.in_ok-hold-in-len1-up.ensures.counted
    c.in_ok-hold-in-len1-up.ensures.begins c.in_ok-hold-in-len1-up.ensures.some c.in_ok-hold-in-len1-up.ensures.alone (ap (λ n. n - 1) c.len-last.ensures) c.index_mut.ensures.value) c.in_err-note_inside-in-len1-up.ensures.still c.in_ok-hold-in-len1-up.ensures.begins

pub marks::BodyMarks::note_at-invariant_of-self-in-len1-up : goal.marks::BodyMarks::note_at-invariant_of-self-in-len1-up
marks::BodyMarks::note_at-invariant_of-self-in-len1-up t c =
    let last = c.len-last.result - 1 in
    held_counted c.self.inside.pieces c.self.inside.behind c.hold.new.self c.hold.new.behind (first c.args.way.now) last c.index_mut.result.now c.note_inside.new.piece
    (is_held c.self.inside.pieces c.self.inside.behind c.hold.new.self c.hold.new.behind (first c.args.way.now) last c.index_mut.result.now c.in_ok-hold-in-len1-up.ensures.reaches c.in_ok-hold-in-len1-up.ensures.counted
    c.in_ok-hold-in-len1-up.ensures.begins c.in_ok-hold-in-len1-up.ensures.some c.in_ok-hold-in-len1-up.ensures.alone (ap (λ n. n - 1) c.len-last.ensures) c.index_mut.ensures.value) c.in_ok-note_inside-in-len1-up.ensures.alone c.in_ok-hold-in-len1-up.ensures.begins

pub marks::BodyMarks::note_at-returns-in_ok-note_inside-in-len1-up : goal.marks::BodyMarks::note_at-returns-in_ok-note_inside-in-len1-up
marks::BodyMarks::note_at-returns-in_ok-note_inside-in-len1-up t c =
    let last = c.len-last.result - 1 in
    noted_deeper (here c.args.back.now c.args.number) c.args.way.now c.args.self.now (told (in_order c.self.inside.pieces) c.self.inside.behind c.self.inside.gone.items)
    (told (in_order (changed c.hold.new.self last c.note_inside.new.piece)) c.hold.new.behind c.self.inside.gone.items) c.in-len1-up.len_at_least c.self.view_is
    (changed_held (changed_inside (marks_at (others c.args.way.now) (here c.args.back.now c.args.number))) c.self.inside.pieces c.self.inside.behind c.hold.new.self c.hold.new.behind (first c.args.way.now) last c.index_mut.result.now c.note_inside.new.piece
    (is_held c.self.inside.pieces c.self.inside.behind c.hold.new.self c.hold.new.behind (first c.args.way.now) last c.index_mut.result.now c.in_ok-hold-in-len1-up.ensures.reaches c.in_ok-hold-in-len1-up.ensures.counted
    c.in_ok-hold-in-len1-up.ensures.begins c.in_ok-hold-in-len1-up.ensures.some c.in_ok-hold-in-len1-up.ensures.alone (ap (λ n. n - 1) c.len-last.ensures) c.index_mut.ensures.value) c.in_ok-note_inside-in-len1-up.ensures.alone c.in_ok-note_inside-in-len1-up.ensures.trace c.self.inside.gone.items)
