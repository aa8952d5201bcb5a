use Rattle.std.proofs.Common.{◌≡◌, drop, length}
use Rattle.std.specs.List.{fold}
use Rattle.rdl_header.specs.Places.{with_mark, counts_of}
use Rattle.rdl_header.proofs.places.counts_at.Given as goal

abbrev pub invariant-marks : goal.invariant-marks
invariant-marks l = (length l.counts.items ≡ l.places) × (fold (with_mark l.places) l.counts.items (drop l.mark-index l.marks) ≡ counts_of l.places l.marks)
