-- One level of traces as a list, in which what is inside an item is already seen as its traces.
-- own: SystemRDL 2.0 has no edits.
use Rattle.std.specs.Prelude.{List, [], ◌∷◌}
use Rattle.rdl_origin.specs.Traces.{Traces, no_traces, trace}
use Rattle.rdl_origin.specs.declared.origin.Origin.{Origin}

-- the item, and then these
abbrev pub add : Origin → Traces → Traces
add o rest = trace o.now o.is_touched o.is_moved o.inside rest

abbrev pub traces_of : List Origin → Traces
traces_of [] = no_traces
traces_of (o ∷ os) = add o (traces_of os)

abbrev pub list_of : Traces → List Origin
list_of no_traces = []
list_of (trace now is_touched is_moved inside rest) =
    record { now = now; is_touched = is_touched; is_moved = is_moved; inside = inside } ∷ list_of rest
