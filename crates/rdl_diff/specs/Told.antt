-- What a row tells, part by part, and how each part is written. Own.
use Rattle.std.specs.Prelude.{ℕ, ◌==◌, ◌&&◌, Bool, true, false, List, [], ◌∷◌, ◌++◌, map, Option, Some, None, option_map, bytes_eq, codes}
use Rattle.std.specs.Cmp.Lexicographic.{pointwise}
use Rattle.std.specs.List.{flat_map}
use Rattle.std.specs.Option.{option_eq}
use Rattle.rdl_tree.specs.Properties.{row as row_of, properties}
use Rattle.rdl_tree.specs.Word.{word_text}
use Rattle.rdl_tree.specs.declared.shell.Kind.{Kind}
use Rattle.rdl_tree.specs.declared.shell.Kind.TheVariants.{Addrmap, Regfile, Reg, Field}
use Rattle.rdl_tree.specs.declared.value.Value.{Value}
use Rattle.rdl_tree.specs.declared.value.Value.TheVariants as given
use Rattle.rdl_elab.specs.declared.layout.Span.{Span}
use Rattle.rdl_elab.specs.declared.row.Location.{Location}
use Rattle.rdl_elab.specs.declared.row.Location.TheVariants.{Bytes, Bits}
use Rattle.rdl_elab.specs.declared.row.Row.{Row}
use Rattle.rdl_elab.specs.Reaches.{value_under}
use Rattle.rdl_list.specs.ListText.{span_text}
use Rattle.rdl_write.specs.Texts.{hexadecimal, kind_text, dim_text, quote, value_text}
use Rattle.rdl_diff.specs.Escaped.{escaped}
use Rattle.rdl_diff.specs.declared.what.What.{What}
use Rattle.rdl_diff.specs.declared.what.What.TheVariants as what

-- what a part of a row may be
pub data Told : Type 0 where
  kind : Kind → Told
  number : Option ℕ → Told
  sizes : List ℕ → Told
  bits : Option Span → Told
  value : Option Value → Told

-- ---- What a row tells.

-- a field has bits, and any other row bytes
abbrev pub offset_at : Location → Option ℕ
offset_at (Bytes e) = Some e.offset
offset_at (Bits s) = None

abbrev pub size_at : Location → Option ℕ
size_at (Bytes e) = Some e.size
size_at (Bits s) = None

abbrev pub dims_at : Location → List ℕ
dims_at (Bytes e) = e.dims
dims_at (Bits s) = []

-- only an array has a stride
abbrev pub stride_of : (dims : List ℕ) → (stride : ℕ) → Option ℕ
stride_of [] stride = None
stride_of (dim ∷ dims) stride = Some stride

abbrev pub stride_at : Location → Option ℕ
stride_at (Bytes e) = stride_of e.dims e.stride
stride_at (Bits s) = None

abbrev pub bits_at : Location → Option Span
bits_at (Bytes e) = None
bits_at (Bits s) = Some s

abbrev pub told : What → Row → Told
told what.Kind r = kind r.kind
told what.Base r = number (Some r.base)
told what.Offset r = number (offset_at r.location)
told what.Size r = number (size_at r.location)
told what.Dims r = sizes (dims_at r.location)
told what.Stride r = number (stride_at r.location)
told what.Bits r = bits (bits_at r.location)
told (what.Value p) r = value (value_under p r.values)

-- all that it tells behind its kind and its base, in order
unfoldable pub whats : List What
whats = what.Offset ∷ what.Size ∷ what.Dims ∷ what.Stride ∷ what.Bits ∷ map what.Value properties

-- ---- Whether two rows tell the same.

abbrev pub same_kind : Kind → Kind → Bool
same_kind Addrmap Addrmap = true
same_kind Regfile Regfile = true
same_kind Reg Reg = true
same_kind Field Field = true
same_kind a b = false

abbrev pub same_span : Span → Span → Bool
same_span a b = (a.start == b.start) && (a.end == b.end)

abbrev pub same_bool : Bool → Bool → Bool
same_bool true true = true
same_bool false false = true
same_bool a b = false

abbrev pub same_value : Value → Value → Bool
same_value (given.Number a) (given.Number b) = a == b
same_value (given.Text a) (given.Text b) = bytes_eq a b
same_value (given.Bool a) (given.Bool b) = same_bool a b
same_value (given.Word a) (given.Word b) = bytes_eq (word_text a) (word_text b)
same_value a b = false

abbrev pub same : Told → Told → Bool
same (kind a) (kind b) = same_kind a b
same (number a) (number b) = option_eq ◌==◌ a b
same (sizes a) (sizes b) = pointwise ◌==◌ a b
same (bits a) (bits b) = option_eq same_span a b
same (value a) (value b) = option_eq same_value a b
same a b = false

-- ---- How it is written.

abbrev pub what_text : What → List ℕ
what_text what.Kind = codes "kind"
what_text what.Base = codes "base"
what_text what.Offset = codes "offset"
what_text what.Size = codes "size"
what_text what.Dims = codes "dims"
what_text what.Stride = codes "stride"
what_text what.Bits = codes "bits"
what_text (what.Value p) = (row_of p).name

-- what there is, by its own text
abbrev pub or_none : Option (List ℕ) → List ℕ
or_none None = codes "none"
or_none (Some text) = text

abbrev pub sizes_text : List ℕ → List ℕ
sizes_text [] = codes "none"
sizes_text (dim ∷ dims) = flat_map dim_text (dim ∷ dims)

-- a number as in the lines of rows, a string in quotes, and any other value as in an assignment
abbrev pub told_value_text : Value → List ℕ
told_value_text (given.Number n) = hexadecimal n
told_value_text (given.Text t) = quote ++ escaped t ++ quote
told_value_text v = value_text v

abbrev pub told_text : Told → List ℕ
told_text (kind k) = kind_text k
told_text (number n) = or_none (option_map hexadecimal n)
told_text (sizes dims) = sizes_text dims
told_text (bits span) = or_none (option_map span_text span)
told_text (value v) = or_none (option_map told_value_text v)
