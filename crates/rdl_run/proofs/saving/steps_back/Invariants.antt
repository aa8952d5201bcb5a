use Rattle.std.proofs.Common.{true, ◌-◌, ◌≤◌, length, map}
use Rattle.rdl_run.specs.OwnSteps.{AllOwn}
use Rattle.rdl_run.specs.Sessions.{LeadsAlong}
use Rattle.rdl_run.proofs.Leading.{EachIs}
use Rattle.rdl_run.proofs.saving.steps_back.Given as goal

abbrev pub invariant-steps : goal.invariant-steps
invariant-steps l = record {
  few : length l.steps.items ≤ l.journal.history.place;
  each : EachIs (λ i. LeadsAlong l.journal.history.own l.journal.history.states (l.journal.history.place - i) (l.journal.history.place - i - 1)) (map (λ step. step.now) l.steps.items);
  own : AllOwn l.journal → EachIs (λ i. LeadsAlong true l.journal.history.states (l.journal.history.place - i) (l.journal.history.place - i - 1)) (map (λ step. step.now) l.steps.items);
}

abbrev pub decreases-steps : goal.decreases-steps
decreases-steps l = l.journal.history.place - length l.steps.items
