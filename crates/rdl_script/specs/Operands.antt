-- The operands of a line; None where one is not of its form.
-- Own; the words are those of SystemRDL 2.0.
use Rattle.std.specs.Prelude.{ℕ, Bool, true, false, ◌&&◌, ◌||◌, nat_eq, nat_le, if◌then◌else◌, List, [], ◌∷◌, length, Option, None, Some, option_map, Result, Ok, Err, codes, bytes_eq}
use Rattle.std.specs.List.{slice_split}
use Rattle.rdl_text.specs.Name.{is_identifier}
use Rattle.rdl_text.specs.Word.{Word}
use Rattle.rdl_text.specs.Words.{words}
use Rattle.rdl_text.specs.declared.fault.TextFault.{TextFault}
use Rattle.rdl_text.specs.declared.token.Mark.TheVariants.{OpenBracket, CloseBracket, Colon}
use Rattle.rdl_tree.specs.declared.path.Segment.{Segment}
use Rattle.rdl_tree.specs.declared.path.Segment.TheVariants.{Def, Inst}
use Rattle.rdl_tree.specs.declared.value.Value.{Value}
use Rattle.rdl_parse.specs.Class.{class}
use Rattle.rdl_parse.specs.Reading.{is_mark, number_by, value_by}
use Rattle.rdl_parse.specs.Symbol.{Symbol, name, symbols}
use Rattle.rdl_parse.specs.declared.class.Class.{Class}
use Rattle.rdl_parse.specs.declared.class.Class.TheVariants as classes
use Rattle.rdl_rewrite.specs.declared.place.Place.{Place}
use Rattle.rdl_rewrite.specs.declared.place.Place.TheVariants.{First, Last, Before, After}
use Rattle.rdl_script.specs.Words.{first_word, behind_word, is_empty}
use Rattle.rdl_script.specs.declared.name.NameSort.{NameSort}
use Rattle.rdl_script.specs.declared.name.NameSort.TheVariants.{Any, Free, Property}

infixl 10 ◌>>=◌
abbrev pub ◌>>=◌ : {A B : Type 0} → Option A → (A → Option B) → Option B
(Some x) >>= f = f x
None >>= f = None

-- ---- Identifiers: at most 255 bytes.

abbrev pub is_free : Class → Bool
is_free classes.Name = true
is_free _ = false

abbrev pub is_property : Class → Bool
is_property (classes.Property p) = true
is_property _ = false

-- which identifiers may stand there: each, those that aren't reserved, or these and the reserved words that are properties
abbrev pub allows : NameSort → Class → Bool
allows Any c = true
allows Free c = is_free c
allows Property c = is_free c || is_property c

abbrev pub is_name_of : NameSort → List ℕ → Bool
is_name_of sort bytes = nat_le (length bytes) 255 && (is_identifier bytes && allows sort (class bytes))

unfoldable pub name_in : NameSort → List ℕ → Option (List ℕ)
name_in sort bytes = if is_name_of sort bytes then Some bytes else None

-- ---- Paths, targets and places.

-- what stands behind this byte, if it is the first
abbrev pub behind : ℕ → List ℕ → Option (List ℕ)
behind first [] = None
behind first (c ∷ cs) = if nat_eq c first then Some cs else None

-- the parts between the separators
abbrev pub parts : ℕ → List ℕ → List (List ℕ)
parts separator bytes = slice_split (λ c. nat_eq c separator) bytes

-- what each of them is, if each is something
abbrev pub all_of : {A : Type 0} → (List ℕ → Option A) → List (List ℕ) → Option (List A)
all_of f [] = Some []
all_of f (x ∷ xs) = f x >>= λ y. option_map (λ ys. y ∷ ys) (all_of f xs)

abbrev pub segment_of : Option (List ℕ) → List ℕ → Option Segment
segment_of (Some definition) bytes = option_map Def (name_in Free definition)
segment_of None bytes = option_map Inst (name_in Free bytes)

-- `$NAME` or `NAME`
unfoldable pub segment_in : List ℕ → Option Segment
segment_in bytes = segment_of (behind 36 bytes) bytes

abbrev pub segments_in : List ℕ → Option (List Segment)
segments_in bytes = if is_empty bytes then Some [] else all_of segment_in (parts 47 bytes)

-- `/`, or `/` and segments parted by `/`
unfoldable pub path_in : List ℕ → Option (List Segment)
path_in bytes = behind 47 bytes >>= segments_in

-- identifiers parted by `.`
unfoldable pub target_in : List ℕ → Option (List (List ℕ))
target_in bytes = all_of (name_in Any) (parts 46 bytes)

-- a place, and what stands behind its words
abbrev pub Placed : Type 0
Placed = Place × List ℕ

abbrev pub beside : (Segment → Place) → List ℕ → Option Placed
beside place operands = option_map (λ sibling. (place sibling, behind_word operands)) (segment_in (first_word operands))

-- `first`, `last`, `before SEGMENT` or `after SEGMENT`
unfoldable pub place_in : List ℕ → Option Placed
place_in operands =
    if bytes_eq (first_word operands) (codes "first") then Some (First, behind_word operands)
    else if bytes_eq (first_word operands) (codes "last") then Some (Last, behind_word operands)
    else if bytes_eq (first_word operands) (codes "before") then beside Before (behind_word operands)
    else if bytes_eq (first_word operands) (codes "after") then beside After (behind_word operands)
    else None

-- ---- The rest of a line, cut into words of SystemRDL.

abbrev pub symbols_of : Result (List Word) TextFault → Option (List Symbol)
symbols_of (Ok ws) = Some (symbols ws)
symbols_of (Err fault) = None

-- the words of a text, which may have comments between them; None where it has a fault
unfoldable pub symbols_in : List ℕ → Option (List Symbol)
symbols_in bytes = symbols_of (words bytes)

abbrev pub is_none : Symbol → Bool
is_none (name n) = bytes_eq n (codes "none")
is_none w = false

-- [number] any number of times
abbrev pub size_by : (left size right : Symbol) → Option ℕ
size_by left size right = if is_mark OpenBracket left && is_mark CloseBracket right then number_by size else None

abbrev pub sizes_by : List Symbol → Option (List ℕ)
sizes_by [] = Some []
sizes_by (left ∷ size ∷ right ∷ ws) = size_by left size right >>= λ n. option_map (λ ns. n ∷ ns) (sizes_by ws)
sizes_by ws = None

-- `none`, or [number] once or more
abbrev pub dims_by : List Symbol → Option (List ℕ)
dims_by [] = None
dims_by (w ∷ []) = if is_none w then Some [] else None
dims_by ws = sizes_by ws

abbrev pub range_by : (left high colon low right : Symbol) → Option (ℕ × ℕ)
range_by left high colon low right =
    if is_mark OpenBracket left && (is_mark Colon colon && is_mark CloseBracket right)
    then (number_by high >>= λ h. option_map (λ l. (h, l)) (number_by low))
    else None

-- `none`, or [high : low]
abbrev pub bits_by : List Symbol → Option (Option (ℕ × ℕ))
bits_by (w ∷ []) = if is_none w then Some None else None
bits_by (left ∷ high ∷ colon ∷ low ∷ right ∷ []) = option_map Some (range_by left high colon low right)
bits_by ws = None

-- `none`, or a number
abbrev pub number_or_none_by : List Symbol → Option (Option ℕ)
number_or_none_by (w ∷ []) = if is_none w then Some None else option_map Some (number_by w)
number_or_none_by ws = None

-- exactly one word that is a value
abbrev pub one_value_by : List Symbol → Option Value
one_value_by (w ∷ []) = value_by w
one_value_by ws = None

unfoldable pub dims_in : List ℕ → Option (List ℕ)
dims_in bytes = symbols_in bytes >>= dims_by

unfoldable pub bits_in : List ℕ → Option (Option (ℕ × ℕ))
bits_in bytes = symbols_in bytes >>= bits_by

unfoldable pub number_in : List ℕ → Option (Option ℕ)
number_in bytes = symbols_in bytes >>= number_or_none_by

unfoldable pub value_in : List ℕ → Option Value
value_in bytes = symbols_in bytes >>= one_value_by
