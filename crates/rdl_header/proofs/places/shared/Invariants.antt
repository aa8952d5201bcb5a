use Rattle.std.proofs.Common.{◌≡◌, take}
use Rattle.std.specs.List.{filter}
use Rattle.rdl_header.specs.Places.{is_shared}
use Rattle.rdl_header.proofs.places.shared.Given as goal

abbrev pub invariant-marks : goal.invariant-marks
invariant-marks l = l.shared.items ≡ filter (is_shared l.counts) (take l.mark-index l.marks)
