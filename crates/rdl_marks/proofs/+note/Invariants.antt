use Rattle.std.proofs.Common.{◌+◌, ◌*◌, length}
use Rattle.rdl_marks.proofs.+note.Given as goal

abbrev pub decreases-marks::BodyMarks::note_at : goal.decreases-marks::BodyMarks::note_at
decreases-marks::BodyMarks::note_at l = 2 * length l.way.now

abbrev pub decreases-note::note_inside : goal.decreases-note::note_inside
decreases-note::note_inside l = 2 * length l.way.now + 1
