-- What is written is UTF-8, where its strings are.
use Rattle.std.proofs.Common.{◌≡◌, ℕ, zero, suc, ◌/◌, ◌%◌, ◌<◌, Bool, true, false, nat_eq, nat_lt, ◌&&◌, List, [], ◌∷◌, ◌++◌, Option, Some, None, get_or, refl, arith}
use Rattle.std.proofs.lemmas.Bool.Decides.{nat_tests}
use Rattle.std.proofs.lemmas.Str.{IsUtf8-append, IsUtf8-nil, IsUtf8-from_ascii}
use Rattle.std.specs.Fmt.{decimal, digits, digits_onto, digit_glyph}
use Rattle.std.specs.List.{list_all}
use Rattle.std.specs.Prelude.{codes, flat_map, IsUtf8}
use Rattle.rdl_text.specs.Name.{IsName}
use Rattle.rdl_tree.specs.Items.{Items, no_items, plain, holder, Plain, named, own, default, dynamic, Holder, define, anonymous}
use Rattle.rdl_tree.specs.Word.{word_text}
use Rattle.rdl_tree.specs.declared.shell.Outside.{Outside}
use Rattle.rdl_tree.specs.declared.shell.Outside.TheVariants.{Unsaid, External, Internal}
use Rattle.rdl_tree.specs.declared.shell.Shell.{Shell}
use Rattle.rdl_tree.specs.declared.value.Value.{Value}
use Rattle.rdl_tree.specs.declared.value.Value.TheVariants.{Number, Text, Bool as Boolean, Word}
use Rattle.rdl_session.proofs.Meant.{name-utf8}
use Rattle.rdl_write.specs.MapText.{statement_text, open_text, close_text, statement_line, open_line, close_line, deeper, body_text}
use Rattle.rdl_write.specs.Texts.{newline, quote, boolean_text, value_text, assignment_text, target_text, kind_text, outside_text, dim_text, range_text, part_text, shell_text, hexadecimal}
use Rattle.rdl_round.specs.OfWords.{AreNames, IsValue, IsShellOfWords, IsPlainOfWords, IsHolderOfWords, IsOfWords}
use Rattle.rdl_round.proofs.Each.{Each, chosen}
use Rattle.rdl_round.proofs.Written.{kind-name, truth-name, word-name}

-- ---- Strings.

abbrev pub IsUtf8Value : Value → Type 0
IsUtf8Value (Text t) = IsUtf8 t
IsUtf8Value v = Unit {0}

abbrev pub IsUtf8Plain : Plain → Type 0
IsUtf8Plain (named s t) = Unit {0}
IsUtf8Plain (own p v) = IsUtf8Value v
IsUtf8Plain (default p v) = IsUtf8Value v
IsUtf8Plain (dynamic t p v) = IsUtf8Value v

abbrev pub IsUtf8Holder : Holder → Type 0
IsUtf8Holder h = Unit {0}

-- the strings of a description
abbrev pub AreUtf8 : Items → Type 0
AreUtf8 d = Each IsUtf8Plain IsUtf8Holder d

-- ---- Words and numbers.

pub two : (a b : List ℕ) → IsUtf8 a → IsUtf8 b → IsUtf8 (a ++ b)
two a b h k = IsUtf8-append a b h k

abbrev is_low : ℕ → Bool
is_low c = nat_lt c 128

low : (c : ℕ) → is_low c ≡ true → c < 128
low c h = grind (arith, nat_tests)

is-low : (c : ℕ) → c < 128 → is_low c ≡ true
is-low c h = grind (arith, nat_tests)

both : (a b : Bool) → (a && b) ≡ true → (a ≡ true) × (b ≡ true)
both true b h = (refl, h)
both false b h = absurd cc

ascii : (bytes : List ℕ) → list_all is_low bytes ≡ true → (i : ℕ) → get_or bytes i 0 < 128
ascii [] h i = omega arith
ascii (c ∷ cs) h zero = low c (both (is_low c) (list_all is_low cs) h).0
ascii (c ∷ cs) h (suc i) = ascii cs (both (is_low c) (list_all is_low cs) h).1 i

pub plain-utf8 : (bytes : List ℕ) → list_all is_low bytes ≡ true → IsUtf8 bytes
plain-utf8 bytes h = IsUtf8-from_ascii bytes (ascii bytes h)

glyph-low : (upper : Bool) (d : ℕ) → d < 16 → is_low (digit_glyph upper d) ≡ true
glyph-low true d h = grind (arith, nat_tests)
glyph-low false d h = grind (arith, nat_tests)

onto-low : (k base : ℕ) (upper : Bool) (n : ℕ) (acc : List ℕ) → ((m : ℕ) → m % base < 16) → list_all is_low acc ≡ true → list_all is_low (digits_onto k base upper n acc) ≡ true
onto-low zero base upper n acc small h = h
onto-low (suc k) base upper n acc small h =
    let first : list_all is_low (digit_glyph upper (n % base) ∷ acc) ≡ true = rw (glyph-low upper (n % base) (small n)) h in
    chosen (λ ds. list_all is_low ds ≡ true) (nat_eq (n / base) 0) (digit_glyph upper (n % base) ∷ acc) (digits_onto k base upper (n / base) (digit_glyph upper (n % base) ∷ acc))
    first (onto-low k base upper (n / base) (digit_glyph upper (n % base) ∷ acc) small first)

pub decimal-utf8 : (n : ℕ) → IsUtf8 (decimal n)
unfolding digits
decimal-utf8 n = plain-utf8 (decimal n) (onto-low 64 10 false n [] (λ m. omega arith) refl)

hexadecimal-utf8 : (n : ℕ) → IsUtf8 (hexadecimal n)
unfolding digits
hexadecimal-utf8 n = two (codes "0x") (digits 16 true n) (plain-utf8 (codes "0x") refl) (plain-utf8 (digits 16 true n) (onto-low 64 16 true n [] (λ m. omega arith) refl))

-- one text behind another, for each of a list
pub all-utf8 : {X : Type 0} (f : X → List ℕ) → ((x : X) → IsUtf8 (f x)) → (xs : List X) → IsUtf8 (flat_map f xs)
all-utf8 f h [] = IsUtf8-nil
all-utf8 f h (x ∷ xs) = two (f x) (flat_map f xs) (h x) (all-utf8 f h xs)

-- ---- The parts of a line.

value-utf8 : (v : Value) → IsValue v → IsUtf8Value v → IsUtf8 (value_text v)
unfolding value_text
value-utf8 (Number n) h k = decimal-utf8 n
value-utf8 (Text t) h k = two (quote ++ t) quote (two quote t (plain-utf8 quote refl) k) (plain-utf8 quote refl)
value-utf8 (Boolean b) h k = name-utf8 (boolean_text b) (truth-name b)
value-utf8 (Word w) h k = name-utf8 (word_text w) (word-name w)

assignment-utf8 : (p : List ℕ) (v : Value) → IsName p → IsValue v → IsUtf8Value v → IsUtf8 (assignment_text p v)
unfolding assignment_text
assignment-utf8 p v h k u = two (p ++ codes " = ") (value_text v) (two p (codes " = ") (name-utf8 p h) (plain-utf8 (codes " = ") refl)) (value-utf8 v k u)

dotted-utf8 : (ns : List (List ℕ)) → AreNames ns → IsUtf8 (flat_map (λ n. codes "." ++ n) ns)
dotted-utf8 [] h = IsUtf8-nil
dotted-utf8 (n ∷ ns) h = two (codes "." ++ n) (flat_map (λ m. codes "." ++ m) ns) (two (codes ".") n (plain-utf8 (codes ".") refl) (name-utf8 n h.0)) (dotted-utf8 ns h.1)

target-utf8 : (ns : List (List ℕ)) → AreNames ns → IsUtf8 (target_text ns)
target-utf8 [] h = IsUtf8-nil
target-utf8 (n ∷ ns) h = two n (flat_map (λ m. codes "." ++ m) ns) (name-utf8 n h.0) (dotted-utf8 ns h.1)

outside-utf8 : (o : Outside) → IsUtf8 (outside_text o)
outside-utf8 Unsaid = IsUtf8-nil
outside-utf8 External = plain-utf8 (codes "external ") refl
outside-utf8 Internal = plain-utf8 (codes "internal ") refl

dim-utf8 : (n : ℕ) → IsUtf8 (dim_text n)
dim-utf8 n = two (codes "[" ++ decimal n) (codes "]") (two (codes "[") (decimal n) (plain-utf8 (codes "[") refl) (decimal-utf8 n)) (plain-utf8 (codes "]") refl)

range-utf8 : (r : Option (ℕ × ℕ)) → IsUtf8 (range_text r)
range-utf8 None = IsUtf8-nil
range-utf8 (Some r) =
    two (codes "[" ++ decimal r.0 ++ codes ":" ++ decimal r.1) (codes "]")
    (two (codes "[" ++ decimal r.0 ++ codes ":") (decimal r.1)
    (two (codes "[" ++ decimal r.0) (codes ":") (two (codes "[") (decimal r.0) (plain-utf8 (codes "[") refl) (decimal-utf8 r.0)) (plain-utf8 (codes ":") refl))
    (decimal-utf8 r.1))
    (plain-utf8 (codes "]") refl)

-- behind a mark
number-utf8 : (mark : List ℕ) (o : Option ℕ) → IsUtf8 mark → IsUtf8 (part_text mark o)
number-utf8 mark None h = IsUtf8-nil
number-utf8 mark (Some n) h =
    two (codes " " ++ mark ++ codes " ") (hexadecimal n)
    (two (codes " " ++ mark) (codes " ") (two (codes " ") mark (plain-utf8 (codes " ") refl) h) (plain-utf8 (codes " ") refl))
    (hexadecimal-utf8 n)

shell-utf8 : (s : Shell) → IsShellOfWords s → IsUtf8 (shell_text s)
unfolding shell_text
shell-utf8 s h =
    let dims = flat_map dim_text s.dims in
    let range = range_text s.range in
    let reset = part_text (codes "=") s.reset in
    let address = part_text (codes "@") s.address in
    let stride = part_text (codes "+=") s.stride in
    let align = part_text (codes "%=") s.align in
    two (s.name ++ dims ++ range ++ reset ++ address ++ stride) align
    (two (s.name ++ dims ++ range ++ reset ++ address) stride
    (two (s.name ++ dims ++ range ++ reset) address
    (two (s.name ++ dims ++ range) reset
    (two (s.name ++ dims) range
    (two s.name dims (name-utf8 s.name h.name) (all-utf8 dim_text dim-utf8 s.dims))
    (range-utf8 s.range))
    (number-utf8 (codes "=") s.reset (plain-utf8 (codes "=") refl)))
    (number-utf8 (codes "@") s.address (plain-utf8 (codes "@") refl)))
    (number-utf8 (codes "+=") s.stride (plain-utf8 (codes "+=") refl)))
    (number-utf8 (codes "%=") s.align (plain-utf8 (codes "%=") refl))

-- ---- Lines.

statement-utf8 : (p : Plain) → IsPlainOfWords p → IsUtf8Plain p → IsUtf8 (statement_text p)
statement-utf8 (named s t) h u =
    two (outside_text s.outside ++ t ++ codes " ") (shell_text s)
    (two (outside_text s.outside ++ t) (codes " ") (two (outside_text s.outside) t (outside-utf8 s.outside) (name-utf8 t h.1)) (plain-utf8 (codes " ") refl))
    (shell-utf8 s h.0)
statement-utf8 (own p v) h u = assignment-utf8 p v h.0 h.1 u
statement-utf8 (default p v) h u = two (codes "default ") (assignment_text p v) (plain-utf8 (codes "default ") refl) (assignment-utf8 p v h.0 h.1 u)
statement-utf8 (dynamic t p v) h u =
    two (target_text t ++ codes "->") (assignment_text p v) (two (target_text t) (codes "->") (target-utf8 t h.0) (plain-utf8 (codes "->") refl)) (assignment-utf8 p v h.1 h.2 u)

open-utf8 : (h : Holder) → IsHolderOfWords h → IsUtf8 (open_text h)
open-utf8 (define n k) h = two (kind_text k ++ codes " ") n (two (kind_text k) (codes " ") (name-utf8 (kind_text k) (kind-name k)) (plain-utf8 (codes " ") refl)) (name-utf8 n h)
open-utf8 (anonymous s k) h = two (outside_text s.outside) (kind_text k) (outside-utf8 s.outside) (name-utf8 (kind_text k) (kind-name k))

close-utf8 : (h : Holder) → IsHolderOfWords h → IsUtf8 (close_text h)
close-utf8 (define n k) h = plain-utf8 (codes "}") refl
close-utf8 (anonymous s k) h = two (codes "} ") (shell_text s) (plain-utf8 (codes "} ") refl) (shell-utf8 s h)

-- what stands between the indent and what ends the line
line-utf8 : (indent a end : List ℕ) → IsUtf8 indent → IsUtf8 a → IsUtf8 end → IsUtf8 (indent ++ a ++ end ++ newline)
line-utf8 indent a end i h e = two (indent ++ a ++ end) newline (two (indent ++ a) end (two indent a i h) e) (plain-utf8 newline refl)

pub body-utf8 : (d : Items) (indent : List ℕ) → IsUtf8 indent → IsOfWords d → AreUtf8 d → IsUtf8 (body_text indent d)
unfolding statement_line open_line close_line
body-utf8 no_items indent i h u = IsUtf8-nil
body-utf8 (plain p rest) indent i h u =
    two (statement_line indent p) (body_text indent rest) (line-utf8 indent (statement_text p) (codes ";") i (statement-utf8 p h.0 u.0) (plain-utf8 (codes ";") refl)) (body-utf8 rest indent i h.1 u.1)
body-utf8 (holder k body rest) indent i h u =
    let first = open_line indent k in
    let inner = body_text (deeper indent) body in
    let close = close_line indent k in
    let first-utf8 = line-utf8 indent (open_text k) (codes " {") i (open-utf8 k h.0) (plain-utf8 (codes " {") refl) in
    let inner-utf8 = body-utf8 body (deeper indent) (two indent (codes "    ") i (plain-utf8 (codes "    ") refl)) h.1 u.1 in
    let close-is = line-utf8 indent (close_text k) (codes ";") i (close-utf8 k h.0) (plain-utf8 (codes ";") refl) in
    two (first ++ inner ++ close) (body_text indent rest) (two (first ++ inner) close (two first inner first-utf8 inner-utf8) close-is) (body-utf8 rest indent i h.2 u.2)
