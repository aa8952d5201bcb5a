use Rattle.std.proofs.Common.{◌≡◌, take, true}
use Rattle.rdl_seen.specs.Layouts.{are_apart}
use Rattle.rdl_nodes.specs.Apart.{begin_from, end_by}
use Rattle.rdl_nodes.proofs.apart.are_apart_from_first.Given as goal

abbrev pub invariant-loop-i : goal.invariant-loop-i
invariant-loop-i l = record { apart : are_apart (take l.i l.spans) ≡ true; begins : begin_from l.low (take l.i l.spans) ≡ true; ends : end_by l.high (take l.i l.spans) ≡ true }
