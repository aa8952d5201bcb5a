use Rattle.std.proofs.Common.{◌≡◌, ◌≤◌}
use Rattle.rdl_places.specs.Reached.{count_before}
use Rattle.rdl_places.proofs.numbers.count_before.Given as goal

abbrev pub invariant-loop-i : goal.invariant-loop-i
invariant-loop-i l = record { so_far : l.instances ≡ count_before l.i l.body; few : l.instances ≤ l.i }
