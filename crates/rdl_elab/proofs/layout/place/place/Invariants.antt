use Rattle.std.proofs.Common.{◌≡◌, drop}
use Rattle.rdl_elab.specs.Layouts.{container}
use Rattle.rdl_elab.specs.Capped.{capped_layout}
use Rattle.rdl_elab.specs.Placing.{with_behind}
use Rattle.rdl_elab.proofs.layout.place.place.Given as goal

abbrev pub invariant-loop-item : goal.invariant-loop-item
invariant-loop-item l = record {
  around : l.placing.alignment ≡ l.fn.alignment;
  left : with_behind l.placing (drop l.item-index l.items) ≡ capped_layout (container l.fn.alignment l.fn.mode l.items);
}
