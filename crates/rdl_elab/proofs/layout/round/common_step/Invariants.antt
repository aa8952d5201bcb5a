use Rattle.std.proofs.Common.{◌<◌, ◌+◌, ◌^◌, ◌-◌}
use Rattle.rdl_elab.specs.Rounding.{IsStep}
use Rattle.rdl_elab.proofs.layout.round.common_step.Given as goal

abbrev pub invariant-loop-step : goal.invariant-loop-step
invariant-loop-step l = record { step : IsStep l.first l.second l.step; bound : l.step < 2 ^ 42 }

abbrev pub decreases-loop-step : goal.decreases-loop-step
decreases-loop-step l = 2 ^ 40 + 1 - l.step
