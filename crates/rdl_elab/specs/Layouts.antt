-- The layout of a component under a mode: its size, its access, and the spans of its instances.
-- SystemRDL 2.0: fields (clause 9), registers (10), register files (12), address maps (13).
-- own: the instances of a register file are placed in the mode of the nearest address map around the register file's instance.
use Rattle.std.specs.Prelude.{ℕ, Bool, true, false, List, [], ◌∷◌, map, Option, Some, None, unwrap_or, if◌then◌else◌}
use Rattle.std.specs.Int.{is_power_of_two}
use Rattle.rdl_tree.specs.Items.{Items}
use Rattle.rdl_tree.specs.declared.shell.Kind.{Kind}
use Rattle.rdl_tree.specs.declared.shell.Kind.TheVariants.{Addrmap, Regfile, Reg, Field}
use Rattle.rdl_tree.specs.declared.shell.Shell.{Shell}
use Rattle.rdl_tree.specs.declared.value.Value.{Value}
use Rattle.rdl_tree.specs.declared.value.Value.TheVariants.{Number, Word as Worded}
use Rattle.rdl_tree.specs.declared.value.Word.{Word}
use Rattle.rdl_tree.specs.declared.value.Word.TheVariants as word
use Rattle.rdl_tree.specs.Properties.{has_form}
use Rattle.rdl_tree.specs.declared.property.Form.TheVariants.{Widths}
use Rattle.rdl_tree.specs.declared.property.Property.{Property}
use Rattle.rdl_tree.specs.declared.property.Property.TheVariants.{Addressing, Alignment, Regwidth, Accesswidth, Fieldwidth}
use Rattle.rdl_scope.specs.Closed.{Head, Parts, no_parts, part, Made, head_value, instances}
use Rattle.rdl_scope.specs.ItemFaults.{product}
use Rattle.rdl_scope.specs.Value.{component_value}
use Rattle.rdl_elab.specs.declared.layout.Mode.{Mode}
use Rattle.rdl_elab.specs.declared.layout.Mode.TheVariants.{Compact, Regalign, Fullalign}
use Rattle.rdl_elab.specs.declared.layout.Placement.{Placement}
use Rattle.rdl_elab.specs.declared.layout.FieldBits.{FieldBits}
use Rattle.rdl_elab.specs.declared.layout.Member.{Member}
use Rattle.rdl_elab.specs.declared.layout.LayoutValues.{LayoutValues}
use Rattle.rdl_elab.specs.declared.layout.Layout.{Layout}
use Rattle.rdl_elab.specs.Size.{bytes_of, greatest_end, greatest_access}
use Rattle.rdl_elab.specs.Start.{spans_from}
use Rattle.rdl_elab.specs.Bits.{bits_from}

-- the number of a value that is one
abbrev pub number_in : Option Value → Option ℕ
number_in (Some (Number n)) = Some n
number_in v = None

-- an alignment; a number that is no power of two, which the property does not take, counts as none
abbrev pub power_in : Option ℕ → Option ℕ
power_in None = None
power_in (Some n) = elim (is_power_of_two n) [ true ↦ Some n | false ↦ None ]

-- a width of a register; a number that is none, which the property does not take, counts as 0
abbrev pub width_in : Option ℕ → ℕ
width_in None = 0
width_in (Some n) = if has_form Widths (Number n) then n else 0

-- the mode that a word names; any other, which the property does not take, counts as the built-in value
abbrev pub mode_of : Word → Mode
mode_of word.Compact = Compact
mode_of word.Fullalign = Fullalign
mode_of w = Regalign

abbrev pub mode_in : Option Value → Mode
mode_in (Some (Worded w)) = mode_of w
mode_in v = Regalign

-- the values on which the layout of a component depends
abbrev pub layout_values : (Property → Option Value) → LayoutValues
layout_values value =
    record {
      addressing = mode_in (value Addressing);
      alignment = power_in (number_in (value Alignment));
      regwidth = width_in (number_in (value Regwidth));
      accesswidth = width_in (number_in (value Accesswidth));
      fieldwidth = unwrap_or (number_in (value Fieldwidth)) 0;
    }

-- those of a component by its assignments, the defaults that reach it and the built-in values
abbrev pub values_of : Head → LayoutValues
values_of h = layout_values (head_value h)

-- the mode of the instances of a component that stands under a mode
abbrev pub mode_inside : Kind → LayoutValues → Mode → Mode
mode_inside Addrmap v m = v.addressing
mode_inside kind v m = m

-- an instance has dims, be it `[1]`
abbrev pub is_array : List ℕ → Bool
is_array [] = false
is_array (n ∷ ns) = true

abbrev pub placement : Shell × Layout → Placement
placement i =
    record { size = i.1.size; access = i.1.access; elements = product i.0.dims; is_array = is_array i.0.dims; address = i.0.address; stride = i.0.stride; align = i.0.align }

-- the size of a field, which its instance may say
abbrev pub width_of : List ℕ → ℕ → ℕ
width_of [] width = width
width_of (n ∷ ns) width = n

abbrev pub field_bits : Shell × Layout → FieldBits
field_bits i = record { width = width_of i.0.dims i.1.size; range = i.0.range }

-- what a layout takes of an instance and of its component's layout: no name, and no reset
abbrev pub member : Shell × Layout → Member
member i = record { placement = placement i; bits = field_bits i }

-- an address map or a register file with these instances in it
abbrev pub container : Option ℕ → Mode → List Placement → Layout
container around m ps = record { size = greatest_end (spans_from around m 0 ps); access = greatest_access ps; spans = spans_from around m 0 ps }

-- a component by its kind, its values, the mode of its instances, and its instances; the size of a field is its width in bits
abbrev pub laid_out : Kind → LayoutValues → Mode → List Member → Layout
laid_out Addrmap v m members = container v.alignment m (map (λ (i : Member). i.placement) members)
laid_out Regfile v m members = container v.alignment m (map (λ (i : Member). i.placement) members)
laid_out Reg v m members =
    record { size = bytes_of v.regwidth; access = bytes_of v.accesswidth; spans = bits_from 0 (map (λ (i : Member). i.bits) members) }
laid_out Field v m members = record { size = v.fieldwidth; access = 0; spans = [] }

-- the instances under a mode, each with the layout of its component
abbrev pub layouts : Mode → Parts → List (Shell × Layout)
layouts m no_parts = []
layouts m (part at s h inside rest) =
    let v = values_of h in
    let n = mode_inside h.kind v m in
    (s, laid_out h.kind v n (map member (layouts n inside))) ∷ layouts m rest

-- a component that stands under a mode
abbrev pub layout_of : Mode → Head → Parts → Layout
layout_of m h inside =
    let v = values_of h in
    let n = mode_inside h.kind v m in
    laid_out h.kind v n (map member (layouts n inside))

abbrev pub layout : Mode → Made → Layout
layout m c = layout_of m c.head c.parts

-- a component at an address, by the values and the instances that the searches through whole bodies find
abbrev pub layout_as_found : Items → List ℕ → Mode → Head → Layout
layout_as_found d a m h =
    let v = layout_values (component_value d a) in
    let n = mode_inside h.kind v m in
    laid_out h.kind v n (map member (layouts n (instances d a 0 h.body)))

-- its instances under that mode, each with the layout of its component
abbrev pub instances_under : Mode → Made → List (Shell × Layout)
instances_under m c = layouts (mode_inside c.head.kind (values_of c.head) m) c.parts
