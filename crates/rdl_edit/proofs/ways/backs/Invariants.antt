use Rattle.std.proofs.Common.{◌≡◌, ◌+◌, ◌++◌, map, length}
use Rattle.rdl_edit.specs.Backs.{read_back}
use Rattle.rdl_edit.proofs.ways.backs.Given as goal

abbrev pub invariant-loop-step : goal.invariant-loop-step
invariant-loop-step l = record {
  done : l.backs.items ≡ map (λ step. read_back step.items) l.yielded;
  all : l.yielded ++ l.step-iterator.rest.items ≡ l.fn.steps.items;
  count : length l.yielded + l.step-iterator.rest.len ≡ length l.fn.steps.items;
}
