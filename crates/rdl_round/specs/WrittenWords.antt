-- The words of a written map as the grammar sees them, without their places.
-- SystemRDL 2.0, component definitions and instances, property assignments; the forms are those of rdl_write's MapText.
use Rattle.std.specs.Prelude.{◌≡◌, ℕ, List, [], ◌∷◌, Option, Some, None, Ok, codes}
use Rattle.rdl_text.specs.Word.{Word as Token}
use Rattle.rdl_text.specs.Words.{words}
use Rattle.rdl_text.specs.declared.token.Mark.TheVariants.{OpenBrace, CloseBrace, OpenBracket, CloseBracket, Colon, Semicolon, Dot, Equals, At, PlusEquals, PercentEquals, Arrow}
use Rattle.rdl_tree.specs.Items.{Items, no_items, plain, holder, Plain, named, own, default, dynamic, Holder, define, anonymous}
use Rattle.rdl_tree.specs.Word.{word_text}
use Rattle.rdl_tree.specs.declared.shell.Outside.{Outside}
use Rattle.rdl_tree.specs.declared.shell.Outside.TheVariants.{Unsaid, External, Internal}
use Rattle.rdl_tree.specs.declared.shell.Shell.{Shell}
use Rattle.rdl_tree.specs.declared.value.Value.{Value}
use Rattle.rdl_tree.specs.declared.value.Value.TheVariants.{Number, Text, Bool as Boolean, Word}
use Rattle.rdl_parse.specs.Class.{class}
use Rattle.rdl_parse.specs.Symbol.{Symbol, class_symbol, symbols, number, text, mark}
use Rattle.rdl_parse.specs.Spelling.{sizes_words, part_words}
use Rattle.rdl_write.specs.Texts.{boolean_text, kind_text}

-- an identifier that is spelled so: a name, or a reserved word
abbrev pub identifier_word : List ℕ → Symbol
identifier_word spelling = class_symbol (class spelling) spelling

abbrev pub value_word : Value → Symbol
value_word (Number n) = number n
value_word (Text t) = text t
value_word (Boolean b) = identifier_word (boolean_text b)
value_word (Word w) = identifier_word (word_text w)

-- ---- The words of each part, and behind them these.

-- `property = value`
abbrev pub assignment_words : List ℕ → Value → List Symbol → List Symbol
assignment_words property v after = identifier_word property ∷ mark Equals ∷ value_word v ∷ after

-- the names of a target, with dots between them
abbrev pub dotted_words : List (List ℕ) → List Symbol → List Symbol
dotted_words [] after = after
dotted_words (name ∷ names) after = mark Dot ∷ identifier_word name ∷ dotted_words names after

abbrev pub target_words : List (List ℕ) → List Symbol → List Symbol
target_words [] after = after
target_words (name ∷ names) after = identifier_word name ∷ dotted_words names after

-- what stands before the type of an instance
abbrev pub outside_words : Outside → List Symbol → List Symbol
outside_words Unsaid after = after
outside_words External after = identifier_word (codes "external") ∷ after
outside_words Internal after = identifier_word (codes "internal") ∷ after

abbrev pub range_words : Option (ℕ × ℕ) → List Symbol → List Symbol
range_words None after = after
range_words (Some r) after = mark OpenBracket ∷ number r.0 ∷ mark Colon ∷ number r.1 ∷ mark CloseBracket ∷ after

-- the name, the sizes or the range, then the reset, the address, the stride and the alignment
abbrev pub shell_words : Shell → List Symbol → List Symbol
shell_words s after =
    identifier_word s.name
    ∷ sizes_words s.dims
    (range_words s.range
    (part_words Equals s.reset (part_words At s.address (part_words PlusEquals s.stride (part_words PercentEquals s.align after)))))

-- ---- The words of each item, without its semicolon.

-- an item that has no body
abbrev pub statement_words : Plain → List Symbol → List Symbol
statement_words (named s type) after = outside_words s.outside (identifier_word type ∷ shell_words s after)
statement_words (own p v) after = assignment_words p v after
statement_words (default p v) after = identifier_word (codes "default") ∷ assignment_words p v after
statement_words (dynamic target p v) after = target_words target (mark Arrow ∷ assignment_words p v after)

-- an item that has one: before its body, and behind it
abbrev pub open_words : Holder → List Symbol → List Symbol
open_words (define name k) after = identifier_word (kind_text k) ∷ identifier_word name ∷ mark OpenBrace ∷ after
open_words (anonymous s k) after = outside_words s.outside (identifier_word (kind_text k) ∷ mark OpenBrace ∷ after)

abbrev pub close_words : Holder → List Symbol → List Symbol
close_words (define name k) after = mark CloseBrace ∷ after
close_words (anonymous s k) after = mark CloseBrace ∷ shell_words s after

-- ---- The words of a body, and of a description.

abbrev pub body_words : Items → List Symbol → List Symbol
body_words no_items after = after
body_words (plain p rest) after = statement_words p (mark Semicolon ∷ body_words rest after)
body_words (holder h body rest) after = open_words h (body_words body (close_words h (mark Semicolon ∷ body_words rest after)))

abbrev pub map_words : Items → List Symbol
map_words d = body_words d []

-- ---- The words of a text.

-- the text has words, and these are they to the grammar
abbrev pub HasSymbols : List ℕ → List Symbol → Type 0
HasSymbols s ws = (found : List Token) × (words s ≡ Ok found) × (symbols found ≡ ws)
