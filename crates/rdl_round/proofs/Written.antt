-- The parts of a written line, and their words.
use Rattle.std.proofs.Common.{◌≡◌, ◌≢◌, ℕ, Bool, true, false, List, [], ◌∷◌, ◌++◌, Option, Some, None, refl, arith}
use Rattle.std.specs.Prelude.{codes, nat_eq, flat_map}
use Rattle.std.specs.Fmt.{decimal}
use Rattle.rdl_text.specs.Joined.{mark_spelling}
use Rattle.rdl_text.specs.Name.{IsName, is_rest}
use Rattle.rdl_text.specs.declared.token.Mark.{Mark}
use Rattle.rdl_text.specs.declared.token.Mark.TheVariants.{OpenBracket, CloseBracket, Colon, Dot, Equals, At, PlusEquals, PercentEquals}
use Rattle.rdl_tree.specs.Word.{word_text}
use Rattle.rdl_tree.specs.declared.shell.Kind.{Kind}
use Rattle.rdl_tree.specs.declared.shell.Kind.TheVariants.{Addrmap, Regfile, Reg, Field}
use Rattle.rdl_tree.specs.declared.shell.Outside.{Outside}
use Rattle.rdl_tree.specs.declared.shell.Outside.TheVariants.{Unsaid, External, Internal}
use Rattle.rdl_tree.specs.declared.shell.Shell.{Shell}
use Rattle.rdl_tree.specs.declared.value.Value.{Value}
use Rattle.rdl_tree.specs.declared.value.Value.TheVariants.{Number, Text, Bool as Boolean, Word}
use Rattle.rdl_tree.specs.declared.value.Word.{Word as ValueWord}
use Rattle.rdl_tree.specs.declared.value.Word.TheVariants.{R, W, Rw, Wr, Rw1, W1, Na, Rclr, Rset, Ruser, Woset, Woclr, Wot, Wzs, Wzc, Wzt, Wclr, Wset, Wuser, Compact, Regalign, Fullalign}
use Rattle.rdl_parse.specs.Symbol.{Symbol, number, mark}
use Rattle.rdl_parse.specs.Spelling.{sizes_words, part_words}
use Rattle.rdl_write.specs.Texts.{boolean_text, value_text, assignment_text, target_text, kind_text, outside_text, dim_text, range_text, part_text, shell_text, hexadecimal}
use Rattle.rdl_round.specs.OfWords.{AreNumbers, IsPart, IsRange, AreNames, IsValue, IsShellOfWords}
use Rattle.rdl_round.specs.WrittenWords.{identifier_word, value_word, assignment_words, dotted_words, target_words, outside_words, range_words, shell_words}
use Rattle.rdl_round.proofs.Parts.{Stops, Any, Part, join, name-part, mark-part, text-part, blank-part}
use Rattle.rdl_round.proofs.Numerals.{decimal-part, hexadecimal-part}

-- a text that begins with such a byte stops a name and a number
pub stops-at : (c : ℕ) → is_rest c ≡ false → nat_eq c 39 ≡ false → (is_rest c ≡ false) × (c ≢ 39)
stops-at c h k = (h, λ e. let f = rw e at k in cc)

pub weaken : (a : List ℕ) (f : List Symbol → List Symbol) → Part Any a f → Part Stops a f
weaken a f p rest ws s c = p rest ws tt c

abbrev pub Follows : List ℕ → Type 0
Follows b = (rest : List ℕ) → Stops rest → Stops (b ++ rest)

pub blank : Part Any (codes " ") (λ ws. ws)
blank = blank-part (codes " ") (refl, tt)

-- a mark with a blank before and behind it
spaced-mark : (m : Mark) → Part Any (codes " " ++ mark_spelling m ++ codes " ") (λ ws. mark m ∷ ws)
spaced-mark m = join (codes " " ++ mark_spelling m) (codes " ") (λ ws. mark m ∷ ws) (λ ws. ws) (join (codes " ") (mark_spelling m) (λ ws. ws) (λ ws. mark m ∷ ws) blank (mark-part m) (λ rest h. tt)) blank (λ rest h. tt)

-- ---- Values.

pub word-name : (w : ValueWord) → IsName (word_text w)
word-name R = record { short = omega arith; identifier = refl }
word-name W = record { short = omega arith; identifier = refl }
word-name Rw = record { short = omega arith; identifier = refl }
word-name Wr = record { short = omega arith; identifier = refl }
word-name Rw1 = record { short = omega arith; identifier = refl }
word-name W1 = record { short = omega arith; identifier = refl }
word-name Na = record { short = omega arith; identifier = refl }
word-name Rclr = record { short = omega arith; identifier = refl }
word-name Rset = record { short = omega arith; identifier = refl }
word-name Ruser = record { short = omega arith; identifier = refl }
word-name Woset = record { short = omega arith; identifier = refl }
word-name Woclr = record { short = omega arith; identifier = refl }
word-name Wot = record { short = omega arith; identifier = refl }
word-name Wzs = record { short = omega arith; identifier = refl }
word-name Wzc = record { short = omega arith; identifier = refl }
word-name Wzt = record { short = omega arith; identifier = refl }
word-name Wclr = record { short = omega arith; identifier = refl }
word-name Wset = record { short = omega arith; identifier = refl }
word-name Wuser = record { short = omega arith; identifier = refl }
word-name Compact = record { short = omega arith; identifier = refl }
word-name Regalign = record { short = omega arith; identifier = refl }
word-name Fullalign = record { short = omega arith; identifier = refl }

pub truth-name : (b : Bool) → IsName (boolean_text b)
truth-name true = record { short = omega arith; identifier = refl }
truth-name false = record { short = omega arith; identifier = refl }

value-part : (v : Value) → IsValue v → Part Stops (value_text v) (λ ws. value_word v ∷ ws)
unfolding value_text
value-part (Number n) h = decimal-part n h
value-part (Text t) h = λ rest ws s c. text-part t h rest ws tt c
value-part (Boolean b) h = name-part (boolean_text b) (truth-name b)
value-part (Word w) h = name-part (word_text w) (word-name w)

pub assignment-part : (p : List ℕ) (v : Value) → IsName p → IsValue v → Part Stops (assignment_text p v) (assignment_words p v)
unfolding assignment_text
assignment-part p v h k =
    join (p ++ codes " = ") (value_text v) (λ ws. identifier_word p ∷ mark Equals ∷ ws) (λ ws. value_word v ∷ ws)
    (join p (codes " = ") (λ ws. identifier_word p ∷ ws) (λ ws. mark Equals ∷ ws) (name-part p h) (spaced-mark Equals) (λ rest s. stops-at 32 refl refl))
    (value-part v k) (λ rest s. tt)

-- ---- Targets.

dots-follow : (ns : List (List ℕ)) → Follows (flat_map (λ n. codes "." ++ n) ns)
dots-follow [] rest s = s
dots-follow (n ∷ ns) rest s = stops-at 46 refl refl

dotted-part : (ns : List (List ℕ)) → AreNames ns → Part Stops (flat_map (λ n. codes "." ++ n) ns) (dotted_words ns)
dotted-part [] h = λ rest ws s c. c
dotted-part (n ∷ ns) h =
    join (codes "." ++ n) (flat_map (λ m. codes "." ++ m) ns) (λ ws. mark Dot ∷ identifier_word n ∷ ws) (dotted_words ns)
    (join (codes ".") n (λ ws. mark Dot ∷ ws) (λ ws. identifier_word n ∷ ws) (mark-part Dot) (name-part n h.0) (λ rest s. tt))
    (dotted-part ns h.1) (dots-follow ns)

pub target-part : (ns : List (List ℕ)) → AreNames ns → Part Stops (target_text ns) (target_words ns)
target-part [] h = λ rest ws s c. c
target-part (n ∷ ns) h = join n (flat_map (λ m. codes "." ++ m) ns) (λ ws. identifier_word n ∷ ws) (dotted_words ns) (name-part n h.0) (dotted-part ns h.1) (dots-follow ns)

-- ---- Instances.

pub kind-name : (k : Kind) → IsName (kind_text k)
kind-name Addrmap = record { short = omega arith; identifier = refl }
kind-name Regfile = record { short = omega arith; identifier = refl }
kind-name Reg = record { short = omega arith; identifier = refl }
kind-name Field = record { short = omega arith; identifier = refl }

-- a name and a blank
pub before-blank : (n : List ℕ) → IsName n → Part Any (n ++ codes " ") (λ ws. identifier_word n ∷ ws)
before-blank n h = join n (codes " ") (λ ws. identifier_word n ∷ ws) (λ ws. ws) (name-part n h) blank (λ rest s. stops-at 32 refl refl)

pub outside-part : (o : Outside) → Part Any (outside_text o) (outside_words o)
outside-part Unsaid = λ rest ws s c. c
outside-part External = before-blank (codes "external") (record { short = omega arith; identifier = refl })
outside-part Internal = before-blank (codes "internal") (record { short = omega arith; identifier = refl })

-- brackets around a part
bracketed-part : (a : List ℕ) (f : List Symbol → List Symbol) → Part Stops a f → Part Any (codes "[" ++ a ++ codes "]") (λ ws. mark OpenBracket ∷ f (mark CloseBracket ∷ ws))
bracketed-part a f p =
    join (codes "[" ++ a) (codes "]") (λ ws. mark OpenBracket ∷ f ws) (λ ws. mark CloseBracket ∷ ws)
    (join (codes "[") a (λ ws. mark OpenBracket ∷ ws) f (mark-part OpenBracket) p (λ rest s. tt))
    (mark-part CloseBracket) (λ rest s. stops-at 93 refl refl)

dims-follow : (ns : List ℕ) → Follows (flat_map dim_text ns)
dims-follow [] rest s = s
dims-follow (n ∷ ns) rest s = stops-at 91 refl refl

dims-part : (ns : List ℕ) → AreNumbers ns → Part Stops (flat_map dim_text ns) (sizes_words ns)
dims-part [] h = λ rest ws s c. c
dims-part (n ∷ ns) h =
    join (dim_text n) (flat_map dim_text ns) (λ ws. mark OpenBracket ∷ number n ∷ mark CloseBracket ∷ ws) (sizes_words ns)
    (bracketed-part (decimal n) (λ ws. number n ∷ ws) (decimal-part n h.0)) (dims-part ns h.1) (λ rest s. tt)

range-follows : (r : Option (ℕ × ℕ)) → Follows (range_text r)
range-follows None rest s = s
range-follows (Some r) rest s = stops-at 91 refl refl

range-part : (r : Option (ℕ × ℕ)) → IsRange r → Part Stops (range_text r) (range_words r)
range-part None h = λ rest ws s c. c
range-part (Some r) h = λ rest ws s c.
    join (codes "[" ++ decimal r.0 ++ codes ":" ++ decimal r.1) (codes "]") (λ us. mark OpenBracket ∷ number r.0 ∷ mark Colon ∷ number r.1 ∷ us) (λ us. mark CloseBracket ∷ us)
    (join (codes "[" ++ decimal r.0 ++ codes ":") (decimal r.1) (λ us. mark OpenBracket ∷ number r.0 ∷ mark Colon ∷ us) (λ us. number r.1 ∷ us)
    (join (codes "[" ++ decimal r.0) (codes ":") (λ us. mark OpenBracket ∷ number r.0 ∷ us) (λ us. mark Colon ∷ us)
    (join (codes "[") (decimal r.0) (λ us. mark OpenBracket ∷ us) (λ us. number r.0 ∷ us) (mark-part OpenBracket) (decimal-part r.0 h.0) (λ rest s. tt))
    (mark-part Colon) (λ rest s. stops-at 58 refl refl))
    (decimal-part r.1 h.1) (λ rest s. tt))
    (mark-part CloseBracket) (λ rest s. stops-at 93 refl refl) rest ws tt c

-- the reset, the address, the stride and the alignment
number-follows : (m : Mark) (o : Option ℕ) → Follows (part_text (mark_spelling m) o)
number-follows m None rest s = s
number-follows m (Some n) rest s = stops-at 32 refl refl

number-part : (m : Mark) (o : Option ℕ) → IsPart o → Part Stops (part_text (mark_spelling m) o) (part_words m o)
number-part m None h = λ rest ws s c. c
number-part m (Some n) h =
    join (codes " " ++ mark_spelling m ++ codes " ") (hexadecimal n) (λ ws. mark m ∷ ws) (λ ws. number n ∷ ws) (spaced-mark m) (hexadecimal-part n h) (λ rest s. tt)

pub shell-part : (s : Shell) → IsShellOfWords s → Part Stops (shell_text s) (shell_words s)
unfolding shell_text
shell-part s h =
    let dims = flat_map dim_text s.dims in
    let range = range_text s.range in
    let reset = part_text (codes "=") s.reset in
    let address = part_text (codes "@") s.address in
    let stride = part_text (codes "+=") s.stride in
    let align = part_text (codes "%=") s.align in
    let named : Part Stops (s.name ++ dims) (λ ws. identifier_word s.name ∷ sizes_words s.dims ws) =
    join s.name dims (λ ws. identifier_word s.name ∷ ws) (sizes_words s.dims) (name-part s.name h.name) (dims-part s.dims h.dims) (dims-follow s.dims) in
    let ranged : Part Stops (s.name ++ dims ++ range) (λ ws. identifier_word s.name ∷ sizes_words s.dims (range_words s.range ws)) =
    join (s.name ++ dims) range _ (range_words s.range) named (range-part s.range h.range) (range-follows s.range) in
    let reset_is : Part Stops (s.name ++ dims ++ range ++ reset) (λ ws. identifier_word s.name ∷ sizes_words s.dims (range_words s.range (part_words Equals s.reset ws))) =
    join (s.name ++ dims ++ range) reset _ (part_words Equals s.reset) ranged (number-part Equals s.reset h.reset) (number-follows Equals s.reset) in
    let address_is : Part Stops (s.name ++ dims ++ range ++ reset ++ address) (λ ws. identifier_word s.name ∷ sizes_words s.dims (range_words s.range (part_words Equals s.reset (part_words At s.address ws)))) =
    join (s.name ++ dims ++ range ++ reset) address _ (part_words At s.address) reset_is (number-part At s.address h.address) (number-follows At s.address) in
    let stride_is : Part Stops (s.name ++ dims ++ range ++ reset ++ address ++ stride) (λ ws. identifier_word s.name ∷ sizes_words s.dims (range_words s.range (part_words Equals s.reset (part_words At s.address (part_words PlusEquals s.stride ws))))) =
    join (s.name ++ dims ++ range ++ reset ++ address) stride _ (part_words PlusEquals s.stride) address_is (number-part PlusEquals s.stride h.stride) (number-follows PlusEquals s.stride) in
    join (s.name ++ dims ++ range ++ reset ++ address ++ stride) align _ (part_words PercentEquals s.align) stride_is (number-part PercentEquals s.align h.align) (number-follows PercentEquals s.align)
