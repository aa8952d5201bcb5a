use Rattle.std.proofs.Common.{◌≡◌, ◌≤◌, take}
use Rattle.rdl_seen.specs.Inside.{find}
use Rattle.rdl_nodes.specs.HeldInside.{inside_of}
use Rattle.rdl_nodes.proofs.inside.find_from.Given as goal

abbrev pub invariant-loop-i : goal.invariant-loop-i
invariant-loop-i l = record { found : find l.name (inside_of l.instances) ≡ find l.name (inside_of (take l.i l.instances)); from : l.from ≤ l.i }
