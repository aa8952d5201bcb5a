-- The shape of the items: how they nest, without numbers and marks. That of a description is `unnumbered` of its items.
-- own: SystemRDL 2.0 has no edits.
use Rattle.std.specs.Prelude.{false, None}
use Rattle.rdl_origin.specs.Traces.{Traces, no_traces, trace}

abbrev pub shape : Traces → Traces
shape no_traces = no_traces
shape (trace now is_touched is_moved inside rest) = trace None false false (shape inside) (shape rest)
