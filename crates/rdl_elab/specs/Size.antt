-- Where the bytes of an instance end, and what a component with such instances has of them.
-- SystemRDL 2.0: register and access width (clause 10), arrays of instances and their stride (clause 5, instance addresses).
-- own: the size of an address map or a register file is where the last byte inside it ends.
use Rattle.std.specs.Prelude.{ℕ, ◌+◌, ◌-◌, ◌*◌, ◌/◌, max, List, [], ◌∷◌, unwrap_or}
use Rattle.rdl_elab.specs.declared.layout.Placement.{Placement}
use Rattle.rdl_elab.specs.declared.layout.Span.{Span}

-- a register: regwidth and accesswidth count bits
abbrev pub bytes_of : ℕ → ℕ
bytes_of width = width / 8

-- the distance of the elements
abbrev pub stride_of : Placement → ℕ
stride_of p = unwrap_or p.stride p.size

-- where the elements end that begin at this start
abbrev pub end_of : ℕ → Placement → ℕ
end_of start p = start + (p.elements - 1) * stride_of p + p.size

-- the greatest end of the instances, 0 without any
abbrev pub greatest_end : List Span → ℕ
greatest_end [] = 0
greatest_end (s ∷ ss) = max s.end (greatest_end ss)

-- the widest access to a register inside, 0 without any
abbrev pub greatest_access : List Placement → ℕ
greatest_access [] = 0
greatest_access (p ∷ ps) = max p.access (greatest_access ps)
