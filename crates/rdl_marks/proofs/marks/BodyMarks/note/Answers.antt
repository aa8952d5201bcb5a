use Rattle.std.proofs.Common.{rules, ◌≡◌, arith}
use Rattle.std.proofs.lemmas.Grind.{common_steps}
use Rattle.rdl_marks.specs.Noted.{noted}
use Rattle.rdl_marks.proofs.Ways.{keeps}
use Rattle.rdl_marks.proofs.marks.BodyMarks.note.Goals as goal

pub returns-clause-describes : goal.returns-clause-describes
returns-clause-describes c =
    let now : c.note_at.new.self ≡ noted c.args.back.now c.args.self.now = first_of (search rules, grind (arith, common_steps)) in
    keeps c.args.back.now c.args.self.now c.note_at.new.self now
