use Rattle.std.proofs.Common.{◌≡◌, drop}
use Rattle.rdl_run.specs.Fronts.{from_colon}
use Rattle.rdl_run.proofs.front.from_colon.Given as goal

abbrev pub invariant-loop-i : goal.invariant-loop-i
invariant-loop-i l = from_colon l.bytes ≡ from_colon (drop l.i l.bytes)
