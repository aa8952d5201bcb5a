use Rattle.std.proofs.Common.{◌≡◌}
use Rattle.sound_nodes.specs.Rows.{defaults_before}
use Rattle.sound_nodes.proofs.reached.defaults_before.Given as goal

abbrev pub invariant-loop-i : goal.invariant-loop-i
invariant-loop-i l = l.defaults ≡ defaults_before l.i l.fn.defaults l.body
