-- The parts of a written line. Own; the parts are those of SystemRDL 2.0, clause 5, component definitions and instances,
-- property assignments.
use Rattle.std.specs.Prelude.{ℕ, Bool, true, false, List, [], ◌∷◌, ◌++◌, Option, None, Some, codes, flat_map}
use Rattle.std.specs.Fmt.{digits, decimal}
use Rattle.rdl_tree.specs.Word.{word_text}
use Rattle.rdl_tree.specs.declared.shell.Kind.{Kind}
use Rattle.rdl_tree.specs.declared.shell.Kind.TheVariants.{Addrmap, Regfile, Reg, Field}
use Rattle.rdl_tree.specs.declared.shell.Outside.{Outside}
use Rattle.rdl_tree.specs.declared.shell.Outside.TheVariants.{Unsaid, External, Internal}
use Rattle.rdl_tree.specs.declared.shell.Shell.{Shell}
use Rattle.rdl_tree.specs.declared.value.Value.{Value}
use Rattle.rdl_tree.specs.declared.value.Value.TheVariants.{Number, Text, Bool as Boolean, Word}

abbrev pub newline : List ℕ
newline = 10 ∷ []

-- `0x` and upper-case digits without leading zeros
abbrev pub hexadecimal : ℕ → List ℕ
hexadecimal n = codes "0x" ++ digits 16 true n

-- ---- Values. A string stands as it was spelled, in quotes.

abbrev pub quote : List ℕ
quote = 34 ∷ []

abbrev pub boolean_text : Bool → List ℕ
boolean_text true = codes "true"
boolean_text false = codes "false"

unfoldable pub value_text : Value → List ℕ
value_text (Number n) = decimal n
value_text (Text t) = quote ++ t ++ quote
value_text (Boolean b) = boolean_text b
value_text (Word w) = word_text w

-- `property = value`
unfoldable pub assignment_text : List ℕ → Value → List ℕ
assignment_text property v = property ++ codes " = " ++ value_text v

-- the names of a target, with dots between them
abbrev pub target_text : List (List ℕ) → List ℕ
target_text [] = []
target_text (name ∷ names) = name ++ flat_map (λ n. codes "." ++ n) names

-- ---- Instances.

abbrev pub kind_text : Kind → List ℕ
kind_text Addrmap = codes "addrmap"
kind_text Regfile = codes "regfile"
kind_text Reg = codes "reg"
kind_text Field = codes "field"

-- what stands before the type of an instance
abbrev pub outside_text : Outside → List ℕ
outside_text Unsaid = []
outside_text External = codes "external "
outside_text Internal = codes "internal "

abbrev pub dim_text : ℕ → List ℕ
dim_text n = codes "[" ++ decimal n ++ codes "]"

abbrev pub range_text : Option (ℕ × ℕ) → List ℕ
range_text None = []
range_text (Some r) = codes "[" ++ decimal r.0 ++ codes ":" ++ decimal r.1 ++ codes "]"

-- a part by its mark, if the instance has it
abbrev pub part_text : (mark : List ℕ) → Option ℕ → List ℕ
part_text mark None = []
part_text mark (Some n) = codes " " ++ mark ++ codes " " ++ hexadecimal n

-- the name, the sizes or the range, then the reset, the address, the stride and the alignment
unfoldable pub shell_text : Shell → List ℕ
shell_text s =
    s.name ++ flat_map dim_text s.dims ++ range_text s.range ++ part_text (codes "=") s.reset
    ++ part_text (codes "@") s.address ++ part_text (codes "+=") s.stride ++ part_text (codes "%=") s.align
