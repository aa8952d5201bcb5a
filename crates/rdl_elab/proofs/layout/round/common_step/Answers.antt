use Rattle.std.proofs.Common.{arith}
use Rattle.rdl_elab.proofs.Rounding.{step_on}
use Rattle.rdl_elab.proofs.layout.round.common_step.Goals as goal

pub loop-step-preserved : goal.loop-step-preserved
loop-step-preserved c = record {
  step = step_on c.args.first c.args.second c.loop-step.step c.requires.power c.loop-step.invariant.step (λ e. c.if-from-second-eq0.false (rw c.from.ensures e));
  bound = omega arith;
}
