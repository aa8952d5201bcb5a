use Rattle.std.proofs.Common.{◌≡◌, ◌++◌, map, drop}
use Rattle.rdl_elab.specs.Bits.{bits_from}
use Rattle.rdl_elab.specs.Capped.{capped_span}
use Rattle.rdl_elab.proofs.layout.bits.bits.Given as goal

abbrev pub invariant-loop-field : goal.invariant-loop-field
invariant-loop-field l = map capped_span (bits_from 0 l.fields) ≡ l.spans.items ++ map capped_span (bits_from l.next (drop l.field-index l.fields))
