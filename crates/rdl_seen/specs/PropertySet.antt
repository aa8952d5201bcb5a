-- Sets of the seven properties on which layouts and the faults of rows depend.
-- own: SystemRDL 2.0 has the properties, and no sets of them.
use Rattle.std.specs.Prelude.{ℕ, ◌==◌, Bool, true, false, List, Option, Some, None, bit_and, bit_or, bit_xor}
use Rattle.rdl_tree.specs.declared.shell.Kind.{Kind}
use Rattle.rdl_tree.specs.declared.shell.Kind.TheVariants.{Addrmap, Regfile, Reg, Field}
use Rattle.rdl_tree.specs.declared.property.Property.{Property}
use Rattle.rdl_tree.specs.declared.property.Property.TheVariants.{Addressing, Alignment, Regwidth, Accesswidth, Fieldwidth, Sw, Reset}
use Rattle.rdl_tree.specs.Properties.{property_of}
use Rattle.rdl_seen.specs.Names.{meet}
use Rattle.rdl_seen.specs.declared.property_set.PropertySet.{PropertySet}

-- the bit of each of the seven, and none of the others
abbrev pub bit_of : Property → ℕ
bit_of Addressing = 1
bit_of Alignment = 2
bit_of Regwidth = 4
bit_of Accesswidth = 8
bit_of Fieldwidth = 16
bit_of Sw = 32
bit_of Reset = 64
bit_of p = 0

abbrev pub no_properties : PropertySet
no_properties = record { bits = 0 }

-- the property alone
abbrev pub set_of : Property → PropertySet
set_of p = record { bits = bit_of p }

-- the property alone, if that is said
abbrev pub set_if : Bool → Property → PropertySet
set_if true p = set_of p
set_if false p = no_properties

abbrev pub set_of_found : Option Property → PropertySet
set_of_found None = no_properties
set_of_found (Some p) = set_of p

-- the property of a name alone
abbrev pub set_named : List ℕ → PropertySet
set_named name = set_of_found (property_of name)

-- those that a component of this kind has
abbrev pub kind_set : Kind → PropertySet
kind_set Addrmap = record { bits = 3 }
kind_set Regfile = record { bits = 2 }
kind_set Reg = record { bits = 12 }
kind_set Field = record { bits = 112 }

abbrev pub is_no_property : PropertySet → Bool
is_no_property s = s.bits == 0

-- those in either
abbrev pub with_properties : PropertySet → PropertySet → PropertySet
with_properties s t = record { bits = bit_or s.bits t.bits }

-- those of the first that aren't in the second
abbrev pub without_properties : PropertySet → PropertySet → PropertySet
without_properties s t = record { bits = bit_xor s.bits (bit_and s.bits t.bits) }

abbrev pub do_properties_meet : PropertySet → PropertySet → Bool
do_properties_meet s t = meet s.bits t.bits

abbrev pub has_property : PropertySet → Property → Bool
has_property s p = do_properties_meet s (set_of p)
