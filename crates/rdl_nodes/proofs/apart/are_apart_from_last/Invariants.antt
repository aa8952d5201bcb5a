use Rattle.std.proofs.Common.{◌≡◌, drop, true}
use Rattle.rdl_seen.specs.Layouts.{are_apart}
use Rattle.rdl_nodes.specs.Apart.{begin_from}
use Rattle.rdl_nodes.proofs.apart.are_apart_from_last.Given as goal

abbrev pub invariant-loop-i : goal.invariant-loop-i
invariant-loop-i l = record { apart : are_apart (drop l.i l.spans) ≡ true; order : begin_from l.least (drop l.i l.spans) ≡ true }
