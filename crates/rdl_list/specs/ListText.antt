-- The lines of `list`, one for each row. Own.
use Rattle.std.specs.Prelude.{ℕ, ◌-◌, List, [], ◌∷◌, ◌++◌, Option, None, Some, codes}
use Rattle.std.specs.Fmt.{decimal}
use Rattle.std.specs.List.{flat_map}
use Rattle.rdl_tree.specs.declared.property.Property.TheVariants.{Reset}
use Rattle.rdl_elab.specs.declared.layout.Span.{Span}
use Rattle.rdl_elab.specs.declared.row.Extent.{Extent}
use Rattle.rdl_elab.specs.declared.row.Location.{Location}
use Rattle.rdl_elab.specs.declared.row.Location.TheVariants.{Bytes, Bits}
use Rattle.rdl_elab.specs.declared.row.Row.{Row}
use Rattle.rdl_elab.specs.Layouts.{number_in}
use Rattle.rdl_elab.specs.Reaches.{value_under}
use Rattle.rdl_write.specs.Texts.{newline, hexadecimal, kind_text, dim_text, target_text}

-- ---- Parts of a line.

-- names with dots between them; where there is none, a dot
abbrev pub path_text : List (List ℕ) → List ℕ
path_text [] = codes "."
path_text (name ∷ names) = target_text (name ∷ names)

-- a word and a number behind it, each behind a space
abbrev pub part_text : (word : List ℕ) → ℕ → List ℕ
part_text word n = codes " " ++ word ++ codes " " ++ hexadecimal n

-- the distance of the elements, of a row that has sizes
abbrev pub stride_text : (dims : List ℕ) → (stride : ℕ) → List ℕ
stride_text [] stride = []
stride_text (dim ∷ dims) stride = part_text (codes "stride") stride

abbrev pub reset_text : Option ℕ → List ℕ
reset_text None = []
reset_text (Some n) = part_text (codes "reset") n

-- ---- Lines, with this as their PATH.

-- `BASE KIND PATH`
unfoldable pub head_text : (path : List ℕ) → Row → List ℕ
head_text path row = hexadecimal row.base ++ codes " " ++ kind_text row.kind ++ codes " " ++ path

-- `[n].. size SIZE stride STRIDE`
unfoldable pub extent_text : Extent → List ℕ
extent_text extent = flat_map dim_text extent.dims ++ part_text (codes "size") extent.size ++ stride_text extent.dims extent.stride

abbrev pub bytes_line : (path : List ℕ) → Row → Extent → List ℕ
bytes_line path row extent = head_text path row ++ extent_text extent ++ newline

-- `[HIGH:LOW]`; the end of a span is the number behind its high bit
abbrev pub span_text : Span → List ℕ
span_text span = codes "[" ++ decimal (span.end - 1) ++ codes ":" ++ decimal span.start ++ codes "]"

-- `[HIGH:LOW] field PATH reset RESET`
unfoldable pub bits_line : (path : List ℕ) → Row → Span → List ℕ
bits_line path row span =
    span_text span ++ codes " field " ++ path ++ reset_text (number_in (value_under Reset row.values)) ++ newline

abbrev pub line_at : (path : List ℕ) → Row → Location → List ℕ
line_at path row (Bytes extent) = bytes_line path row extent
line_at path row (Bits span) = bits_line path row span

abbrev pub line_of : (path : List ℕ) → Row → List ℕ
line_of path row = line_at path row row.location

-- ---- A row as in its line, without the end of the line.

abbrev pub text_at : (path : List ℕ) → Row → Location → List ℕ
text_at path row (Bytes extent) = head_text path row ++ extent_text extent
text_at path row (Bits span) = span_text span ++ codes " field " ++ path ++ reset_text (number_in (value_under Reset row.values))

abbrev pub text_of : (path : List ℕ) → Row → List ℕ
text_of path row = text_at path row row.location

-- ---- The lines of `list`, whose PATH is the names from the top.

abbrev pub row_line : Row → List ℕ
row_line row = line_of (path_text row.names) row

abbrev pub list_lines : List Row → List ℕ
list_lines rows = flat_map row_line rows
