-- What is left is judged as all of it is.
use Rattle.std.proofs.Common.{◌≡◌, false, drop}
use Rattle.rdl_text.specs.Raw.{is_inside}
use Rattle.rdl_text.proofs.raw.is_inside.Given as goal

abbrev pub invariant-scan : goal.invariant-scan
invariant-scan l = is_inside l.taken (drop l.byte-index l.bytes) ≡ is_inside false l.bytes
