-- The C header of a map's rows: its macros, their lines, and when two of them clash. Own; the macros of a field end as those of
-- PeakRDL-cheader.
use Rattle.std.specs.Prelude.{ℕ, zero, suc, Bool, ◌-◌, ◌*◌, ◌/◌, ◌%◌, ◌^◌, nat_lt, min, List, [], ◌∷◌, ◌++◌, Option, None, Some, Result, Ok, Err, codes, bytes_eq, if◌then◌else◌}
use Rattle.std.specs.Fmt.{decimal}
use Rattle.std.specs.Int.{div_ceil}
use Rattle.std.specs.List.{flat_map, list_any}
use Rattle.rdl_tree.specs.declared.property.Property.TheVariants.{Reset}
use Rattle.rdl_scope.specs.ItemFaults.{product}
use Rattle.rdl_elab.specs.declared.layout.Span.{Span}
use Rattle.rdl_elab.specs.declared.row.Extent.{Extent}
use Rattle.rdl_elab.specs.declared.row.Location.{Location}
use Rattle.rdl_elab.specs.declared.row.Location.TheVariants.{Bytes, Bits}
use Rattle.rdl_elab.specs.declared.row.Row.{Row}
use Rattle.rdl_elab.specs.Layouts.{number_in}
use Rattle.rdl_elab.specs.Reaches.{value_under}
use Rattle.rdl_write.specs.Texts.{newline, hexadecimal}

-- ---- Macros.

-- a name, and the text that stands for it
pub record Macro : Type 0 where
  pub name : List ℕ
  pub value : List ℕ

-- the names from the top, with two underscores between them
abbrev pub path_text : List (List ℕ) → List ℕ
path_text [] = []
path_text (name ∷ names) = name ++ flat_map (λ n. codes "__" ++ n) names

abbrev pub hexadecimal_macro : (path : List ℕ) → (ending : List ℕ) → ℕ → Macro
hexadecimal_macro path ending n = record { name = path ++ ending; value = hexadecimal n }

abbrev pub decimal_macro : (path : List ℕ) → (ending : List ℕ) → ℕ → Macro
decimal_macro path ending n = record { name = path ++ ending; value = decimal n }

-- a number of 128 bits, the greatest of them for any that is greater; no map has rows with a greater one
abbrev pub capped : ℕ → ℕ
capped n = min n (2 ^ 128 - 1)

-- of a number in words of 32 bits the i-th, the lowest first
abbrev pub word : (n : ℕ) → (i : ℕ) → ℕ
word n i = n / 2 ^ (32 * i) % 2 ^ 32

-- a macro for each of the first words of a number, the lowest first; its name ends with the number of the word
abbrev pub word_macro : (path : List ℕ) → (ending : List ℕ) → (n : ℕ) → (i : ℕ) → Macro
word_macro path ending n i = hexadecimal_macro path (ending ++ decimal i) (word n i)

abbrev pub word_macros : (path : List ℕ) → (ending : List ℕ) → (n : ℕ) → (count : ℕ) → List Macro
word_macros path ending n zero = []
word_macros path ending n (suc i) = word_macros path ending n i ++ word_macro path ending n i ∷ []

-- how many elements an array has, and how far they lie apart
abbrev pub array_macros : (path : List ℕ) → (dims : List ℕ) → (stride : ℕ) → List Macro
array_macros path [] stride = []
array_macros path (dim ∷ dims) stride =
    decimal_macro path (codes "_count") (capped (product (dim ∷ dims))) ∷ hexadecimal_macro path (codes "_stride") stride ∷ []

unfoldable pub bytes_macros : (path : List ℕ) → (base : ℕ) → Extent → List Macro
bytes_macros path base extent =
    hexadecimal_macro path (codes "_base") base
    ∷ hexadecimal_macro path (codes "_offset") extent.offset
    ∷ hexadecimal_macro path (codes "_size") extent.size
    ∷ array_macros path extent.dims extent.stride

-- the bits that a field has; its end is the number behind its high bit
abbrev pub width : Span → ℕ
width span = span.end - span.start

-- as many ones as a field has bits, where the field stands in its register
abbrev pub mask : Span → ℕ
mask span = capped ((2 ^ width span - 1) * 2 ^ span.start)

-- in a register of so many bytes; where it has over 64 bits, in four words
abbrev pub mask_macros : (path : List ℕ) → (register : ℕ) → Span → List Macro
mask_macros path register span =
    if nat_lt 8 register then word_macros path (codes "_bm") (mask span) 4
    else hexadecimal_macro path (codes "_bm") (mask span) ∷ []

-- the reset isn't shifted; that of a field of over 64 bits stands in as many words as the field needs
abbrev pub reset_macros : (path : List ℕ) → (width : ℕ) → Option ℕ → List Macro
reset_macros path width None = []
reset_macros path width (Some n) =
    if nat_lt 64 width then word_macros path (codes "_reset") n (div_ceil width 32)
    else hexadecimal_macro path (codes "_reset") n ∷ []

-- where the bits begin, how many they are, and the reset
unfoldable pub width_macros : (path : List ℕ) → Span → (reset : Option ℕ) → List Macro
width_macros path span reset =
    decimal_macro path (codes "_bp") span.start
    ∷ decimal_macro path (codes "_bw") (width span)
    ∷ reset_macros path (width span) reset

abbrev pub bits_macros : (path : List ℕ) → (register : ℕ) → Span → (reset : Option ℕ) → List Macro
bits_macros path register span reset = mask_macros path register span ++ width_macros path span reset

-- those of a row; a field stands in a register of so many bytes
abbrev pub macros_at : (register : ℕ) → Row → Location → List Macro
macros_at register row (Bytes extent) = bytes_macros (path_text row.names) row.base extent
macros_at register row (Bits span) = bits_macros (path_text row.names) register span (number_in (value_under Reset row.values))

abbrev pub macros_of : (register : ℕ) → Row → List Macro
macros_of register row = macros_at register row row.location

-- the bytes of the register in which the fields behind a row stand, if there are any: fields stand behind their register
abbrev pub register_behind : (register : ℕ) → Location → ℕ
register_behind register (Bytes extent) = extent.size
register_behind register (Bits span) = register

-- those of rows, one after the other
abbrev pub macros_below : (register : ℕ) → List Row → List Macro
macros_below register [] = []
macros_below register (row ∷ rows) = macros_of register row ++ macros_below (register_behind register row.location) rows

-- the macro that is defined wherever the header has been read, of the first row, which is the top
abbrev pub guard : Row → Macro
guard top = record { name = path_text top.names ++ codes "_H"; value = [] }

-- the guard, then those of the rows below the top
abbrev pub macros : List Row → List Macro
macros [] = []
macros (top ∷ rows) = guard top ∷ macros_below 0 rows

-- ---- The text.

unfoldable pub macro_line : Macro → List ℕ
macro_line m = codes "#define " ++ m.name ++ codes " " ++ m.value ++ newline

unfoldable pub guard_lines : Macro → List ℕ
guard_lines m = codes "#ifndef " ++ m.name ++ newline ++ codes "#define " ++ m.name ++ newline

-- the first macro is the guard; without one there are no lines
abbrev pub header_text : List Macro → List ℕ
header_text [] = []
header_text (m ∷ ms) = guard_lines m ++ flat_map macro_line ms ++ codes "#endif" ++ newline

-- ---- Clashes.

abbrev pub is_defined : (name : List ℕ) → List Macro → Bool
is_defined name ms = list_any (λ m. bytes_eq m.name name) ms

-- the name of the first macro that has the name of one before it
abbrev pub clash_behind : (before : List Macro) → List Macro → Option (List ℕ)
clash_behind before [] = None
clash_behind before (m ∷ ms) = if is_defined m.name before then Some m.name else clash_behind (before ++ m ∷ []) ms

abbrev pub first_clash : List Macro → Option (List ℕ)
first_clash ms = clash_behind [] ms

abbrev pub text_unless : Option (List ℕ) → List ℕ → Result (List ℕ) (List ℕ)
text_unless None text = Ok text
text_unless (Some name) text = Err name

-- the header of the rows, or the name that clashes
abbrev pub header_of : List Row → Result (List ℕ) (List ℕ)
header_of rows = text_unless (first_clash (macros rows)) (header_text (macros rows))
