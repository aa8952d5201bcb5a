use Rattle.std.proofs.Common.{◌≡◌, drop}
use Rattle.std.specs.List.{fold}
use Rattle.rdl_scope.specs.Front.{with_byte}
use Rattle.rdl_nodes.proofs.lasts.front_of.Given as goal

abbrev pub invariant-loop-byte : goal.invariant-loop-byte
invariant-loop-byte l = fold with_byte l.front (drop l.byte-index l.byte-items) ≡ fold with_byte 0 l.byte-items
