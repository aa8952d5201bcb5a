use Rattle.std.proofs.Common.{◌≡◌, ◌++◌, map, drop}
use Rattle.rdl_elab.specs.Layouts.{field_bits}
use Rattle.rdl_elab.specs.Inside.{kept_parts}
use Rattle.rdl_elab.proofs.walk.instances.fields.Given as goal

abbrev pub invariant-loop-part : goal.invariant-loop-part
invariant-loop-part l =
    l.fields.items ++ map field_bits (kept_parts l.mode l.components (drop l.part-index l.parts)) ≡ map field_bits (kept_parts l.mode l.components l.parts)
