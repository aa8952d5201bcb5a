-- How long the written text of a map is at most: a number of bytes for each item, and twice the weight.
use Rattle.std.proofs.Common.{ℕ, zero, suc, ◌+◌, ◌*◌, ◌/◌, ◌%◌, ◌^◌, ◌<◌, ◌≤◌, ◌⊎◌, inl, inr, Bool, true, false, List, [], ◌∷◌, ◌++◌, length, Option, Some, None, true≢false, sym, arith}
use Rattle.std.proofs.lemmas.Bool.{cases_lt, ne_eqb, eq-eqb}
use Rattle.std.proofs.lemmas.Fmt.{length-decimal-le_wide}
use Rattle.std.proofs.lemmas.List.{length-append}
use Rattle.std.proofs.lemmas.List.Sums.{sum_by-cons}
use Rattle.std.specs.Fmt.{digit_glyph, digits_onto, digits, decimal}
use Rattle.std.specs.Prelude.{codes, flat_map, sum_by}
use Rattle.rdl_text.specs.Name.{IsName}
use Rattle.rdl_tree.specs.Depth.{depth}
use Rattle.rdl_tree.specs.Items.{Items, no_items, plain, holder, Plain, named, own, default, dynamic, Holder, define, anonymous, count}
use Rattle.rdl_tree.specs.Limits.{IsWithinLimits}
use Rattle.rdl_tree.specs.Weight.{value_weight, plain_weight, holder_weight, weight}
use Rattle.rdl_tree.specs.Word.{word_text}
use Rattle.rdl_tree.specs.declared.shell.Kind.{Kind}
use Rattle.rdl_tree.specs.declared.shell.Kind.TheVariants.{Addrmap, Regfile, Reg, Field}
use Rattle.rdl_tree.specs.declared.shell.Outside.{Outside}
use Rattle.rdl_tree.specs.declared.shell.Outside.TheVariants.{Unsaid, External, Internal}
use Rattle.rdl_tree.specs.declared.shell.Shell.{Shell}
use Rattle.rdl_tree.specs.declared.value.Value.{Value}
use Rattle.rdl_tree.specs.declared.value.Value.TheVariants.{Number, Text, Bool as Boolean, Word as Named}
use Rattle.rdl_tree.specs.declared.value.Word.{Word}
use Rattle.rdl_tree.specs.declared.value.Word.TheVariants.{R, W, Rw, Wr, Rw1, W1, Na, Rclr, Rset, Ruser, Woset, Woclr, Wot, Wzs, Wzc, Wzt, Wclr, Wset, Wuser, Compact, Regalign, Fullalign}
use Rattle.rdl_parse.specs.Faults.{max_text}
use Rattle.rdl_write.specs.MapText.{statement_text, open_text, close_text, statement_line, open_line, close_line, deeper, body_text, map_text}
use Rattle.rdl_write.specs.Texts.{newline, hexadecimal, quote, boolean_text, value_text, assignment_text, target_text, kind_text, outside_text, dim_text, range_text, part_text, shell_text}
use Rattle.rdl_round.specs.OfWords.{IsNumber, AreNumbers, IsPart, IsRange, AreNames, IsValue, IsShellOfWords, IsPlainOfWords, IsHolderOfWords, IsOfWords}
use Rattle.rdl_round.proofs.Each.{Each}

-- ---- Pieces, each with a bound on its length.

whole : (xs : List ℕ) → length xs ≤ length xs
whole xs = omega arith

two : {m n : ℕ} (a b : List ℕ) → length a ≤ m → length b ≤ n → length (a ++ b) ≤ m + n
two a b p q = omega (arith, length-append a b, p, q)

three : {m n o : ℕ} (a b c : List ℕ) → length a ≤ m → length b ≤ n → length c ≤ o → length (a ++ b ++ c) ≤ m + n + o
three a b c p q r = two (a ++ b) c (two a b p q) r

four : {m n o x : ℕ} (a b c d : List ℕ) → length a ≤ m → length b ≤ n → length c ≤ o → length d ≤ x → length (a ++ b ++ c ++ d) ≤ m + n + o + x
four a b c d p q r s = two (a ++ b ++ c) d (three a b c p q r) s

within : {m n : ℕ} (xs : List ℕ) → length xs ≤ m → m ≤ n → length xs ≤ n
within xs p q = omega (arith, p, q)

-- ---- Numbers.

decimal-size : (n : ℕ) → IsNumber n → length (decimal n) ≤ 39
decimal-size n h = length-decimal-le_wide 39 n (omega arith) (omega (arith, h)) (omega (arith, h))

abbrev spell : ℕ → ℕ → List ℕ → List ℕ
spell k n acc = digits_onto k 16 true n acc

abbrev last_digit : ℕ → ℕ
last_digit n = digit_glyph true (n % 16)

last-size : (k n j : ℕ) (acc : List ℕ) → n < 16 → length (spell (suc k) n acc) ≤ suc j + length acc
last-size k n j acc h = let z = eq-eqb (n / 16) 0 (omega arith) in rw z (omega arith)

next-size : (k n j : ℕ) (acc : List ℕ) → 16 ≤ n → length (spell k (n / 16) (last_digit n ∷ acc)) ≤ suc j + suc (length acc) → length (spell (suc k) n acc) ≤ suc (suc j) + length acc
next-size k n j acc h f = let z = ne_eqb (n / 16) 0 (λ e. omega arith) in rw z (omega (arith, f))

spelled-size : (k j n : ℕ) (acc : List ℕ) → n < 16 ^ suc j → length (spell k n acc) ≤ suc j + length acc
spelled-size zero j n acc h = omega arith
spelled-size (suc k) zero n acc h = last-size k n 0 acc (omega arith)
spelled-size (suc k) (suc j) n acc h = by_size (spelled-size k j (n / 16) (last_digit n ∷ acc) (omega arith)) (cases_lt n 16)
  where
    by_size : length (spell k (n / 16) (last_digit n ∷ acc)) ≤ suc j + suc (length acc) → ((n < 16) ⊎ (16 ≤ n)) → length (spell (suc k) n acc) ≤ suc (suc j) + length acc
    by_size f (inl l) = last-size k n (suc j) acc l
    by_size f (inr l) = next-size k n j acc l f

digits-size : (n : ℕ) → IsNumber n → length (digits 16 true n) ≤ 32
unfolding digits
digits-size n h = omega (arith, spelled-size 64 31 n [] (omega (arith, h)))

hexadecimal-size : (n : ℕ) → IsNumber n → length (hexadecimal n) ≤ 34
hexadecimal-size n h = within (hexadecimal n) (two (codes "0x") (digits 16 true n) (whole (codes "0x")) (digits-size n h)) (omega arith)

dim-size : (n : ℕ) → IsNumber n → length (dim_text n) ≤ 41
dim-size n h = within (dim_text n) (three (codes "[") (decimal n) (codes "]") (whole (codes "[")) (decimal-size n h) (whole (codes "]"))) (omega arith)

dims-size : (ns : List ℕ) → AreNumbers ns → length (flat_map dim_text ns) ≤ 41 * length ns
dims-size [] h = omega arith
dims-size (n ∷ ns) h = within (flat_map dim_text (n ∷ ns)) (two (dim_text n) (flat_map dim_text ns) (dim-size n h.0) (dims-size ns h.1)) (omega arith)

range-size : (r : Option (ℕ × ℕ)) → IsRange r → length (range_text r) ≤ 81
range-size None h = omega arith
range-size (Some r) h =
    let first = three (codes "[") (decimal r.0) (codes ":") (whole (codes "[")) (decimal-size r.0 h.0) (whole (codes ":")) in
    let behind = three (codes "[" ++ decimal r.0 ++ codes ":") (decimal r.1) (codes "]") first (decimal-size r.1 h.1) (whole (codes "]")) in
    within (range_text (Some r)) behind (omega arith)

part-size : (mark : List ℕ) (o : Option ℕ) → length mark ≤ 2 → IsPart o → length (part_text mark o) ≤ 38
part-size mark None m h = omega arith
part-size mark (Some n) m h =
    within (part_text mark (Some n)) (four (codes " ") mark (codes " ") (hexadecimal n) (whole (codes " ")) m (whole (codes " ")) (hexadecimal-size n h)) (omega arith)

-- ---- Values.

boolean-size : (b : Bool) → length (boolean_text b) ≤ 5
boolean-size true = omega arith
boolean-size false = omega arith

word-size : (w : Word) → length (word_text w) ≤ 9
word-size R = omega arith
word-size W = omega arith
word-size Rw = omega arith
word-size Wr = omega arith
word-size Rw1 = omega arith
word-size W1 = omega arith
word-size Na = omega arith
word-size Rclr = omega arith
word-size Rset = omega arith
word-size Ruser = omega arith
word-size Woset = omega arith
word-size Woclr = omega arith
word-size Wot = omega arith
word-size Wzs = omega arith
word-size Wzc = omega arith
word-size Wzt = omega arith
word-size Wclr = omega arith
word-size Wset = omega arith
word-size Wuser = omega arith
word-size Compact = omega arith
word-size Regalign = omega arith
word-size Fullalign = omega arith

value-size : (v : Value) → IsValue v → length (value_text v) ≤ 41 + value_weight v
unfolding value_text
value-size (Number n) h = within (value_text (Number n)) (decimal-size n h) (omega arith)
value-size (Text t) h = within (value_text (Text t)) (three quote t quote (whole quote) (whole t) (whole quote)) (omega arith)
value-size (Boolean b) h = within (value_text (Boolean b)) (boolean-size b) (omega arith)
value-size (Named w) h = within (value_text (Named w)) (word-size w) (omega arith)

assignment-size : (p : List ℕ) (v : Value) → IsValue v → length (assignment_text p v) ≤ 44 + (length p + value_weight v)
unfolding assignment_text
assignment-size p v h = within (assignment_text p v) (three p (codes " = ") (value_text v) (whole p) (whole (codes " = ")) (value-size v h)) (omega arith)

-- ---- Targets: each name has a letter, so there are no more dots than letters.

name-size : (n : List ℕ) → IsName n → 1 ≤ length n
name-size [] h = absurd (true≢false (sym h.identifier))
name-size (c ∷ cs) h = omega arith

abbrev dotted : List ℕ → List ℕ
dotted n = codes "." ++ n

dots-size : (ns : List (List ℕ)) → AreNames ns → length (flat_map dotted ns) ≤ 2 * sum_by length ns
dots-size [] h = omega arith
dots-size (n ∷ ns) h =
    within (flat_map dotted (n ∷ ns)) (two (dotted n) (flat_map dotted ns) (whole (dotted n)) (dots-size ns h.1)) (omega (arith, sum_by-cons length n ns, name-size n h.0))

target-size : (t : List (List ℕ)) → AreNames t → length (target_text t) ≤ 2 * sum_by length t
target-size [] h = omega arith
target-size (n ∷ ns) h =
    within (target_text (n ∷ ns)) (two n (flat_map dotted ns) (whole n) (dots-size ns h.1)) (omega (arith, sum_by-cons length n ns))

-- ---- Instances of at most four sizes.

abbrev pub HasFew : Shell → Type 0
HasFew s = length s.dims ≤ 4

shell-size : (s : Shell) → IsShellOfWords s → HasFew s → length (shell_text s) ≤ 397 + length s.name
unfolding shell_text
shell-size s h few =
    let dims = flat_map dim_text s.dims in
    let range = range_text s.range in
    let reset = part_text (codes "=") s.reset in
    let address = part_text (codes "@") s.address in
    let stride = part_text (codes "+=") s.stride in
    let align = part_text (codes "%=") s.align in
    let first = three s.name dims range (whole s.name) (dims-size s.dims h.dims) (range-size s.range h.range) in
    let second = three (s.name ++ dims ++ range) reset address first (part-size (codes "=") s.reset (omega arith) h.reset) (part-size (codes "@") s.address (omega arith) h.address) in
    let third = three (s.name ++ dims ++ range ++ reset ++ address) stride align second (part-size (codes "+=") s.stride (omega arith) h.stride) (part-size (codes "%=") s.align (omega arith) h.align) in
    within (shell_text s) third (omega (arith, few))

kind-size : (k : Kind) → length (kind_text k) ≤ 7
kind-size Addrmap = omega arith
kind-size Regfile = omega arith
kind-size Reg = omega arith
kind-size Field = omega arith

outside-size : (o : Outside) → length (outside_text o) ≤ 9
outside-size Unsaid = omega arith
outside-size External = omega arith
outside-size Internal = omega arith

-- ---- Lines.

abbrev pub IsPlainFew : Plain → Type 0
IsPlainFew (named s t) = HasFew s
IsPlainFew p = Unit {0}

abbrev pub IsHolderFew : Holder → Type 0
IsHolderFew (define n k) = Unit {0}
IsHolderFew (anonymous s k) = HasFew s

-- each instance has at most four sizes
abbrev pub AreFew : Items → Type 0
AreFew d = Each IsPlainFew IsHolderFew d

statement-size : (p : Plain) → IsPlainOfWords p → IsPlainFew p → length (statement_text p) ≤ 407 + 2 * plain_weight p
statement-size (named s t) h few =
    within (statement_text (named s t)) (four (outside_text s.outside) t (codes " ") (shell_text s) (outside-size s.outside) (whole t) (whole (codes " ")) (shell-size s h.0 few)) (omega arith)
statement-size (own p v) h few = within (statement_text (own p v)) (assignment-size p v h.1) (omega arith)
statement-size (default p v) h few = within (statement_text (default p v)) (two (codes "default ") (assignment_text p v) (whole (codes "default ")) (assignment-size p v h.1)) (omega arith)
statement-size (dynamic t p v) h few =
    within (statement_text (dynamic t p v)) (three (target_text t) (codes "->") (assignment_text p v) (target-size t h.0) (whole (codes "->")) (assignment-size p v h.2)) (omega arith)

open-size : (h : Holder) → length (open_text h) ≤ 16 + holder_weight h
open-size (define n k) = within (open_text (define n k)) (three (kind_text k) (codes " ") n (kind-size k) (whole (codes " ")) (whole n)) (omega arith)
open-size (anonymous s k) = within (open_text (anonymous s k)) (two (outside_text s.outside) (kind_text k) (outside-size s.outside) (kind-size k)) (omega arith)

close-size : (h : Holder) → IsHolderOfWords h → IsHolderFew h → length (close_text h) ≤ 399 + holder_weight h
close-size (define n k) h few = omega arith
close-size (anonymous s k) h few = within (close_text (anonymous s k)) (two (codes "} ") (shell_text s) (whole (codes "} ")) (shell-size s h few)) (omega arith)

statement-line-size : (indent : List ℕ) (p : Plain) → IsPlainOfWords p → IsPlainFew p → length (statement_line indent p) ≤ length indent + 409 + 2 * plain_weight p
unfolding statement_line
statement-line-size indent p h few =
    within (statement_line indent p) (four indent (statement_text p) (codes ";") newline (whole indent) (statement-size p h few) (whole (codes ";")) (whole newline)) (omega arith)

open-line-size : (indent : List ℕ) (h : Holder) → length (open_line indent h) ≤ length indent + 19 + holder_weight h
unfolding open_line
open-line-size indent h = within (open_line indent h) (four indent (open_text h) (codes " {") newline (whole indent) (open-size h) (whole (codes " {")) (whole newline)) (omega arith)

close-line-size : (indent : List ℕ) (h : Holder) → IsHolderOfWords h → IsHolderFew h → length (close_line indent h) ≤ length indent + 401 + holder_weight h
unfolding close_line
close-line-size indent h words few =
    within (close_line indent h) (four indent (close_text h) (codes ";") newline (whole indent) (close-size h words few) (whole (codes ";")) (whole newline)) (omega arith)

-- ---- Bodies.

deeper-size : (indent : List ℕ) → length (deeper indent) ≤ length indent + 4
deeper-size indent = within (deeper indent) (two indent (codes "    ") (whole indent) (whole (codes "    "))) (omega arith)

body-size : (indent : List ℕ) (d : Items) → IsOfWords d → AreFew d → length indent + 4 * depth d ≤ 64 → length (body_text indent d) ≤ 548 * count d + 2 * weight d
body-size indent no_items h few deep = omega arith
body-size indent (plain p rest) h few deep =
    let more = body-size indent rest h.1 few.1 (omega (arith, deep)) in
    within (body_text indent (plain p rest)) (two (statement_line indent p) (body_text indent rest) (statement-line-size indent p h.0 few.0) more) (omega (arith, deep))
body-size indent (holder k body rest) h few deep =
    let inside = body-size (deeper indent) body h.1 few.1 (omega (arith, deep, deeper-size indent)) in
    let more = body-size indent rest h.2 few.2 (omega (arith, deep)) in
    let lines = four (open_line indent k) (body_text (deeper indent) body) (close_line indent k) (body_text indent rest) (open-line-size indent k) inside (close-line-size indent k h.0 few.0) more in
    within (body_text indent (holder k body rest)) lines (omega (arith, deep))

-- ---- The map.

pub map-size : (d : Items) → IsOfWords d → AreFew d → IsWithinLimits d → length (map_text d) ≤ max_text
map-size d h few w = within (map_text d) (body-size [] d h few (omega (arith, w.deep))) (omega (arith, w.many, w.heavy))
