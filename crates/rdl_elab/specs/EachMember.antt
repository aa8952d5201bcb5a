-- What is taken of an instance under each mode: what it says of its place, and how large its component is.
-- own: SystemRDL 2.0 speaks of definitions and instances.
use Rattle.std.specs.Prelude.{ℕ, ◌-◌, ◌^◌, min, List, [], ◌∷◌, Option, Some, None, is_some, unwrap_or}
use Rattle.rdl_tree.specs.declared.shell.Shell.{Shell}
use Rattle.rdl_scope.specs.ItemFaults.{product}
use Rattle.rdl_elab.specs.declared.layout.Mode.{Mode}
use Rattle.rdl_elab.specs.declared.layout.Mode.TheVariants.{Compact, Regalign, Fullalign}
use Rattle.rdl_elab.specs.declared.layout.Layout.{Layout}
use Rattle.rdl_elab.specs.declared.layout.Member.{Member}
use Rattle.rdl_elab.specs.Kept.{Layouts, Said, Extent, Extents, EachMember}

abbrev pub first_of : List ℕ → Option ℕ
first_of [] = None
first_of (n ∷ ns) = Some n

-- what an instance says of its place, its elements counted up to a limit
abbrev pub said_of : Shell → Said
said_of s =
    record { elements = min (product s.dims) (2 ^ 128 - 1); size = first_of s.dims; address = s.address; stride = s.stride; align = s.align; range = s.range }

-- how large a component is
abbrev pub extent_of : Layout → Extent
extent_of l = record { size = l.size; access = l.access }

abbrev pub extents_of : Layouts → Extents
extents_of l = record { compact = extent_of l.compact; regalign = extent_of l.regalign; fullalign = extent_of l.fullalign }

abbrev pub extent_under : Mode → Extents → Extent
extent_under Compact e = e.compact
extent_under Regalign e = e.regalign
extent_under Fullalign e = e.fullalign

-- what a layout takes of an instance that says this, whose component is so large
abbrev pub taken : Said → Extent → Member
taken s e =
    record {
      placement = record { size = e.size; access = e.access; elements = s.elements; is_array = is_some s.size; address = s.address; stride = s.stride; align = s.align };
      bits = record { width = unwrap_or s.size e.size; range = s.range };
    }

abbrev pub member_under : Mode → EachMember → Member
member_under m e = taken e.said (extent_under m e.extents)

-- what is taken of an instance whose component has these layouts
abbrev pub shown_each : Shell → Layouts → EachMember
shown_each s l = record { said = said_of s; extents = extents_of l }
