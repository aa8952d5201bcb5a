-- What assignments state of the seven properties on which layouts and the faults of rows depend.
-- SystemRDL 2.0: fields (clause 9), registers (10), register files (12), address maps (13).
-- own: a value that the property doesn't take states nothing here; it is refused elsewhere.
use Rattle.std.specs.Prelude.{ℕ, ◌-◌, ◌^◌, nat_le, nat_lt, List, Option, Some, None, unwrap_or, if◌then◌else◌}
use Rattle.std.specs.Option.{option_or, is_some}
use Rattle.std.specs.Int.{leading_zeros, w128}
use Rattle.rdl_tree.specs.Items.{Items, no_items, plain, holder, Plain, named, own, default, dynamic}
use Rattle.rdl_tree.specs.Properties.{property_of}
use Rattle.rdl_tree.specs.declared.shell.Kind.{Kind}
use Rattle.rdl_tree.specs.declared.shell.Kind.TheVariants.{Addrmap, Regfile, Reg, Field}
use Rattle.rdl_tree.specs.declared.value.Value.{Value}
use Rattle.rdl_tree.specs.declared.value.Value.TheVariants.{Number, Word as Worded}
use Rattle.rdl_tree.specs.declared.value.Word.TheVariants as word
use Rattle.rdl_tree.specs.declared.property.Property.{Property}
use Rattle.rdl_tree.specs.declared.property.Property.TheVariants.{Addressing, Alignment, Regwidth, Accesswidth, Fieldwidth, Sw, Reset}
use Rattle.rdl_seen.specs.declared.mode.Mode.{Mode}
use Rattle.rdl_seen.specs.declared.mode.Mode.TheVariants.{Compact, Regalign, Fullalign}
use Rattle.rdl_seen.specs.declared.property_set.PropertySet.{PropertySet}
use Rattle.rdl_seen.specs.declared.values.Access.{Access}
use Rattle.rdl_seen.specs.declared.values.Access.TheVariants.{OnlyReads, OnlyWrites, Other}
use Rattle.rdl_seen.specs.declared.values.Values.{Values}
use Rattle.rdl_seen.specs.PropertySet.{set_if, with_properties}

abbrev pub mode_of : Value → Option Mode
mode_of (Worded word.Compact) = Some Compact
mode_of (Worded word.Regalign) = Some Regalign
mode_of (Worded word.Fullalign) = Some Fullalign
mode_of v = None

-- a number up to another
abbrev pub number_up_to : ℕ → Value → Option ℕ
number_up_to most (Number n) = if nat_le n most then Some n else None
number_up_to most v = None

abbrev pub number_of : Value → Option ℕ
number_of v = number_up_to (2 ^ 40) v

abbrev pub width_of : Value → Option ℕ
width_of v = number_up_to 128 v

-- how software accesses a field with this value of `sw`
abbrev pub access_of : Value → Access
access_of (Worded word.R) = OnlyReads
access_of (Worded word.W) = OnlyWrites
access_of (Worded word.W1) = OnlyWrites
access_of v = Other

-- how many bits a number needs; of one that no code can hold, no fewer
abbrev pub bit_count : ℕ → ℕ
bit_count n = if nat_lt n (2 ^ 128) then 128 - leading_zeros w128 n else n

-- how many bits a value of `reset` needs
abbrev pub reset_bits : Value → Option ℕ
reset_bits (Number n) = Some (bit_count n)
reset_bits v = None

abbrev pub no_values : Values
no_values = record { addressing = None; alignment = None; regwidth = None; accesswidth = None; fieldwidth = None; sw = None; reset = None }

-- the value of a property in the place of what was stated
abbrev pub put : Property → Value → Values → Values
put Addressing x v = record v { addressing = mode_of x }
put Alignment x v = record v { alignment = number_of x }
put Regwidth x v = record v { regwidth = width_of x }
put Accesswidth x v = record v { accesswidth = width_of x }
put Fieldwidth x v = record v { fieldwidth = width_of x }
put Sw x v = record v { sw = Some (access_of x) }
put Reset x v = record v { reset = reset_bits x }
put p x v = v

abbrev pub put_found : Option Property → Value → Values → Values
put_found None x v = v
put_found (Some p) x v = put p x v

-- the same by the property's name
abbrev pub put_named : List ℕ → Value → Values → Values
put_named name x v = put_found (property_of name) x v

-- what is stated first, and for the rest what is stated second
abbrev pub over : Values → Values → Values
over v outer =
    record {
      addressing = option_or v.addressing outer.addressing;
      alignment = option_or v.alignment outer.alignment;
      regwidth = option_or v.regwidth outer.regwidth;
      accesswidth = option_or v.accesswidth outer.accesswidth;
      fieldwidth = option_or v.fieldwidth outer.fieldwidth;
      sw = option_or v.sw outer.sw;
      reset = option_or v.reset outer.reset;
    }

-- what is stated of the properties that a component of this kind has
abbrev pub of_kind : Kind → Values → Values
of_kind Addrmap v = record no_values { addressing = v.addressing; alignment = v.alignment }
of_kind Regfile v = record no_values { alignment = v.alignment }
of_kind Reg v = record no_values { regwidth = v.regwidth; accesswidth = v.accesswidth }
of_kind Field v = record no_values { fieldwidth = v.fieldwidth; sw = v.sw; reset = v.reset }

-- the properties of which something is stated
abbrev pub stated : Values → PropertySet
stated v =
    with_properties (with_properties (with_properties (with_properties (with_properties (with_properties
    (set_if (is_some v.addressing) Addressing)
    (set_if (is_some v.alignment) Alignment))
    (set_if (is_some v.regwidth) Regwidth))
    (set_if (is_some v.accesswidth) Accesswidth))
    (set_if (is_some v.fieldwidth) Fieldwidth))
    (set_if (is_some v.sw) Sw))
    (set_if (is_some v.reset) Reset)

-- the bits of a register, of one access to it, and of a field
abbrev pub register_bits : Values → ℕ
register_bits v = unwrap_or v.regwidth 32

abbrev pub access_bits : Values → ℕ
access_bits v = unwrap_or v.accesswidth (register_bits v)

abbrev pub field_bits : Values → ℕ
field_bits v = unwrap_or v.fieldwidth 1

-- how software accesses a field
abbrev pub access : Values → Access
access v = unwrap_or v.sw Other

abbrev pub after_own : Plain → Values → Values
after_own (named s t) v = v
after_own (own p x) v = put_named p x v
after_own (default p x) v = v
after_own (dynamic t p x) v = v

-- what the own assignments of a body state, over what is stated already
abbrev pub own_over : Values → Items → Values
own_over v no_items = v
own_over v (plain p rest) = own_over (after_own p v) rest
own_over v (holder h body rest) = own_over v rest

abbrev pub own_values : Items → Values
own_values body = own_over no_values body
