use Rattle.std.proofs.Common.{◌≡◌, drop, true}
use Rattle.std.specs.Prelude.{map}
use Rattle.rdl_seen.specs.Fields.{clash_none}
use Rattle.rdl_nodes.specs.Apart.{begin_from}
use Rattle.rdl_nodes.specs.Part.{access_of}
use Rattle.rdl_nodes.proofs.apart.clash_none.Given as goal

abbrev pub invariant-loop-i : goal.invariant-loop-i
invariant-loop-i l = record { apart : clash_none (drop l.i l.spans) (map access_of (drop l.i l.parts)) ≡ true; order : begin_from l.least (drop l.i l.spans) ≡ true }
