use Rattle.std.proofs.Common.{◌<◌, ◌+◌, ℕ}
use Rattle.std.specs.Prelude.{slice_index}
use Rattle.rdl_header.proofs.mark.is_rising.Given as goal

abbrev pub invariant-marks : goal.invariant-marks
invariant-marks l = (k : ℕ) → k + 1 < l.i → slice_index l.marks k < slice_index l.marks (k + 1)
