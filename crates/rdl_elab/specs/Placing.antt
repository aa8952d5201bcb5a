-- Instances that are placed one after the other, as far as they are.
-- own: SystemRDL 2.0 says where an instance goes behind the one before it; this says what is left to place.
use Rattle.std.specs.Prelude.{max, ◌++◌, map, List}
use Rattle.rdl_elab.specs.declared.layout.placing.Placing.{Placing}
use Rattle.rdl_elab.specs.declared.layout.Placement.{Placement}
use Rattle.rdl_elab.specs.declared.layout.Layout.{Layout}
use Rattle.rdl_elab.specs.declared.layout.Span.{Span}
use Rattle.rdl_elab.specs.Size.{greatest_end, greatest_access}
use Rattle.rdl_elab.specs.Start.{spans_from}
use Rattle.rdl_elab.specs.Capped.{capped_span}

-- where these instances come to lie behind those that are placed
abbrev pub spans_behind : Placing → List Placement → List Span
spans_behind placing behind = map capped_span (spans_from placing.alignment placing.mode placing.end behind)

-- a component with the instances that are placed, and with these behind them
abbrev pub with_behind : Placing → List Placement → Layout
with_behind placing behind = record {
  size = max placing.size (greatest_end (spans_behind placing behind));
  access = max placing.access (greatest_access behind);
  spans = placing.spans.items ++ spans_behind placing behind;
}
