-- What is left of the two is the same if and only if the two are.
use Rattle.std.proofs.Common.{◌≡◌, drop, bytes_eq}
use Rattle.rdl_text.proofs.same.are_same.Given as goal

abbrev pub invariant-loop-byte : goal.invariant-loop-byte
invariant-loop-byte l = bytes_eq (drop l.byte-index l.first) l.rest ≡ bytes_eq l.first l.second
