-- The bits of the fields of a register.
-- SystemRDL 2.0, clause 9, field instances: `[high:low]`, or from one past the field before, as wide as `[size]` or `fieldwidth` says.
use Rattle.std.specs.Prelude.{ℕ, ◌+◌, max, List, [], ◌∷◌, Option, Some, None}
use Rattle.rdl_elab.specs.declared.layout.Span.{Span}
use Rattle.rdl_elab.specs.declared.layout.FieldBits.{FieldBits}

-- the bits of a field, where this is the bit one past the field before it; a range whose low bit is above its high bit, which is refused,
-- has none
abbrev pub bits_by : ℕ → ℕ → Option (ℕ × ℕ) → Span
bits_by next width (Some range) = record { start = range.1; end = max range.1 (range.0 + 1) }
bits_by next width None = record { start = next; end = next + width }

abbrev pub bits_of : ℕ → FieldBits → Span
bits_of next f = bits_by next f.width f.range

-- the fields in their order, the first from this bit on
abbrev pub bits_from : ℕ → List FieldBits → List Span
bits_from next [] = []
bits_from next (f ∷ fs) = bits_of next f ∷ bits_from (bits_of next f).end fs
