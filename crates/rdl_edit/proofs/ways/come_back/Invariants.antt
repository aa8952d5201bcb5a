use Rattle.std.proofs.Common.{◌≡◌, ◌+◌, ◌++◌, length}
use Rattle.rdl_edit.specs.Resuming.{place_after}
use Rattle.rdl_edit.specs.Ways.{ways_along, AllLead}
use Rattle.rdl_edit.proofs.ways.come_back.Given as goal

abbrev pub invariant-loop-way : goal.invariant-loop-way
invariant-loop-way l = record {
  home : place_after l.fn.description.items l.fn.ways.items ≡ place_after l.description.items l.way-iterator.rest.items;
  steps : ways_along l.fn.description.items l.fn.ways.items ≡ l.steps.items ++ ways_along l.description.items l.way-iterator.rest.items;
  lead : AllLead l.description.items l.way-iterator.rest.items;
  all : l.yielded ++ l.way-iterator.rest.items ≡ l.fn.ways.items;
  count : length l.yielded + l.way-iterator.rest.len ≡ length l.fn.ways.items;
}
