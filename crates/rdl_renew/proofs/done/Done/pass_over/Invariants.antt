use Rattle.std.proofs.Common.{◌-◌, ◌≤◌}
use Rattle.rdl_renew.specs.PassedOver.{ArePassed}
use Rattle.rdl_renew.proofs.done.Done.pass_over.Given as goal

abbrev pub invariant-loop-passed : goal.invariant-loop-passed
invariant-loop-passed l = record {
  passed : ArePassed l.before l.front l.stretch.from l.passed l.fn.self l.self;
  few : l.passed ≤ l.stretch.count;
}

abbrev pub decreases-loop-passed : goal.decreases-loop-passed
decreases-loop-passed l = l.stretch.count - l.passed
