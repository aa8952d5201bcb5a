use Rattle.std.proofs.Common.{◌≡◌, ◌+◌, ◌++◌, map, length}
use Rattle.journal_core.specs.Along.{FitInTurn}
use Rattle.rdl_edit.specs.Backs.{prior, Fits}
use Rattle.rdl_edit.specs.Resuming.{steps_fault, place_after}
use Rattle.rdl_edit.specs.Ways.{place_of, ways_along}
use Rattle.rdl_edit.specs.Keeping.{Keeps}
use Rattle.rdl_edit.proofs.resuming.go.Given as goal

abbrev pub invariant-loop-step : goal.invariant-loop-step
invariant-loop-step l = record {
  there : place_after l.fn.description.items l.fn.steps.items ≡ place_after l.description.items l.step-iterator.rest.items;
  keeps : Keeps (record { description = l.description.items; option = l.fn.held.top }) l.held;
  ways : ways_along l.fn.description.items l.fn.steps.items ≡ l.ways.items ++ ways_along l.description.items l.step-iterator.rest.items;
  fits : FitInTurn prior Fits (record { description = l.description.items; option = l.fn.held.top }) l.step-iterator.rest.items
      → FitInTurn prior Fits (record { description = l.fn.description.items; option = l.fn.held.top }) l.fn.steps.items;
  fault : steps_fault (place_of l.direction) l.fn.held.top 1 l.fn.description.items (map (λ step. step.patches) l.fn.steps.items)
      ≡ steps_fault (place_of l.direction) l.fn.held.top (length l.ways.items + 1) l.description.items (map (λ step. step.patches) l.step-iterator.rest.items);
  all : l.yielded ++ l.step-iterator.rest.items ≡ l.fn.steps.items;
  count : length l.yielded + l.step-iterator.rest.len ≡ length l.fn.steps.items;
}
