-- What code keeps of numbers that may be out of reach.
-- own: SystemRDL 2.0 has no limits. A map of more than 2^40 bytes is refused, so what is beyond need not be told apart.
use Rattle.std.specs.Prelude.{ℕ, ◌+◌, ◌^◌, min, map, IfSome, Option}
use Rattle.std.specs.Int.{IsPowerOfTwo}
use Rattle.rdl_tree.specs.declared.shell.Shell.{Shell}
use Rattle.rdl_elab.specs.declared.layout.Layout.{Layout}
use Rattle.rdl_elab.specs.declared.layout.Span.{Span}

abbrev pub capped : ℕ → ℕ
capped n = min n (2 ^ 40 + 1)

abbrev pub capped_span : Span → Span
capped_span s = record { start = capped s.start; end = capped s.end }

abbrev pub capped_layout : Layout → Layout
capped_layout l = record { size = capped l.size; access = l.access; spans = map capped_span l.spans }

-- an `alignment` that a description without faults may have
abbrev pub IsAlignment : Option ℕ → Type 0
IsAlignment around = IfSome around IsPowerOfTwo

-- an instance, of whose component the kept layout is known
abbrev pub capped_instance : Shell × Layout → Shell × Layout
capped_instance i = (i.0, capped_layout i.1)
