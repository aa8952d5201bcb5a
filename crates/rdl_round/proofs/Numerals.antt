-- A written number is one word, and is worth the number.
use Rattle.std.proofs.Common.{◌≡◌, ◌≢◌, ℕ, suc, ◌+◌, ◌-◌, ◌^◌, ◌<◌, ◌≤◌, Bool, true, false, not, cond, ◌&&◌, ◌||◌, List, [], ◌∷◌, ◌++◌, length, drop, Some, None, Ok, refl, sym, ap, ◌∙◌, arith}
use Rattle.std.specs.Prelude.{nat_eq, nat_lt, slice_range}
use Rattle.std.specs.Char.{digit_value, is_digit}
use Rattle.std.specs.Fmt as shown
use Rattle.std.specs.List.{prefix_len, filter}
use Rattle.std.specs.Str.Parse.{AllDigits, digits_value}
use Rattle.std.proofs.lemmas.Bool.{ne_eqb}
use Rattle.std.proofs.lemmas.Bool.Decides.{nat_tests}
use Rattle.rdl_text.specs.Name.{is_rest}
use Rattle.rdl_text.specs.Number.{value, is_underscore}
use Rattle.std.proofs.lemmas.Fmt.{digits_is_IsNumeral, decimal_is_IsNumeral_wide}
use Rattle.std.proofs.lemmas.List.{length-append}
use Rattle.rdl_text.specs.Rows.{byte, is_digit_rest, decimal_len, hexadecimal_len, width_len, verilog_len}
use Rattle.rdl_text.specs.Word.{word}
use Rattle.rdl_text.specs.Words.{words_from, before, piece, decimal, hexadecimal, verilog, longest, is_blank}
use Rattle.rdl_text.specs.declared.token.TokenKind.{TokenKind}
use Rattle.rdl_text.specs.declared.token.TokenKind.TheVariants as kinds
use Rattle.rdl_text.proofs.Following.{words-word}
use Rattle.rdl_text.proofs.Longest.{longest_digit}
use Rattle.rdl_text.proofs.Steps.{candidate_some}
use Rattle.rdl_parse.specs.Symbol.{number}
use Rattle.rdl_write.specs.Texts as written
use Rattle.rdl_round.proofs.Parts.{take_front, Part, Stops, cut-word}

-- ---- Digits, and what stops them.

no-digit : (c : ℕ) → is_rest c ≡ false → digit_value c ≡ 36
no-digit c h = grind (arith, nat_tests)

no-underscore : (c : ℕ) → is_rest c ≡ false → c ≢ 95
no-underscore c h e = let f = rw e at h in cc

digit-underscore : (c : ℕ) → digit_value c < 36 → c ≢ 95
digit-underscore c h e = let f = rw e at h in absurd (omega (arith, f))

digit-high : (c : ℕ) → digit_value c < 10 → c ≤ 57
digit-high c h = grind (arith, nat_tests)

lt-true : (m n : ℕ) → m < n → nat_lt m n ≡ true
lt-true m n h = grind (arith, nat_tests)

lt-false : (m n : ℕ) → n ≤ m → nat_lt m n ≡ false
lt-false m n h = grind (arith, nat_tests)

stops-rest : (base c : ℕ) → base ≤ 36 → is_rest c ≡ false → is_digit_rest base c ≡ false
stops-rest base c b h =
    let n : digit_value c ≡ 36 = no-digit c h in
    rw (lt-false (digit_value c) base (omega (arith, n)), ne_eqb c 95 (no-underscore c h)) refl

goes-on : (base c : ℕ) → digit_value c < base → is_digit_rest base c ≡ true
goes-on base c h = rw (lt-true (digit_value c) base h) refl

stop : (p : ℕ → Bool) (rest : List ℕ) → p (byte rest 0) ≡ false → prefix_len p rest ≡ 0
stop p [] e = refl
stop p (d ∷ ds) e = rw e refl

run-digits : (base : ℕ) (p : ℕ → Bool) (ds rest : List ℕ) → ((c : ℕ) → digit_value c < base → p c ≡ true) → AllDigits base ds → p (byte rest 0) ≡ false → prefix_len p (ds ++ rest) ≡ length ds
run-digits base p [] rest f h e = stop p rest e
run-digits base p (d ∷ ds) rest f h e =
    let more = run-digits base p ds rest f h.1 e in
    rw (f d h.0, more) (omega arith)

all-count : (base : ℕ) (ds : List ℕ) → base ≤ 36 → AllDigits base ds → filter (λ c. not (is_underscore c)) ds ≡ ds
all-count base [] b h = refl
all-count base (d ∷ ds) b h =
    let more = all-count base ds b h.1 in
    rw (ne_eqb d 95 (digit-underscore d (omega (arith, h.0))), more) refl

pub worth : (base : ℕ) (ds : List ℕ) → base ≤ 36 → AllDigits base ds → value base ds ≡ digits_value base ds
unfolding value
worth base ds b h = ap (digits_value base) (all-count base ds b h)

byte-behind : (xs ys : List ℕ) → byte (xs ++ ys) (length xs) ≡ byte ys 0
byte-behind [] ys = refl
byte-behind (x ∷ xs) ys = byte-behind xs ys

drop_front : (xs ys : List ℕ) → drop (length xs) (xs ++ ys) ≡ ys
drop_front [] ys = refl
drop_front (x ∷ xs) ys = drop_front xs ys

digit-low : (c : ℕ) → digit_value c < 10 → 48 ≤ c
digit-low c h = grind (arith, nat_tests)

digit-no-blank : (c : ℕ) → digit_value c < 10 → is_blank c ≡ false
digit-no-blank c h = let low = digit-low c h in let high = digit-high c h in grind (arith, nat_tests)

-- the longest word at the front of a text that begins with a digit
front-word : (at : ℕ) (source rest : List ℕ) (kind : TokenKind) → digit_value (byte (source ++ rest) 0) < 10
    → longest (source ++ rest) ≡ Some (record { len = length source; kind = Ok kind }) → 1 ≤ length source
    → words_from 0 at (source ++ rest) ≡ before (word kind at source) (words_from 0 (at + length source) rest)
unfolding piece
front-word at source rest kind d e some =
    let c = byte (source ++ rest) 0 in
    let no_slash : c ≢ 47 = omega (arith, digit-low c d) in
    let turn = words-word at (length source) kind (source ++ rest) (rw (digit-no-blank c d, ne_eqb c 47 no_slash, e) refl) some (omega (arith, length-append source rest)) in
    turn
    ∙ ap (λ (x : List ℕ). before (word kind at x) (words_from 0 (at + length source) (drop (length source) (source ++ rest)))) (take_front source rest)
    ∙ ap (λ (x : List ℕ). before (word kind at source) (words_from 0 (at + length source) x)) (drop_front source rest)

-- ---- Decimal numbers.

decimal-long : (d : ℕ) (cs rest : List ℕ) → AllDigits 10 (d ∷ cs) → is_rest (byte rest 0) ≡ false → decimal_len (d ∷ (cs ++ rest)) ≡ suc (length cs)
unfolding decimal_len
decimal-long d cs rest h e =
    let run = run-digits 10 (is_digit_rest 10) cs rest (goes-on 10) h.1 (stops-rest 10 (byte rest 0) (omega arith) e) in
    rw (lt-true (digit_value d) 10 h.0, run) (omega arith)

front-range : (xs ys : List ℕ) → slice_range (xs ++ ys) 0 (length xs) ≡ xs
front-range xs ys = let k : length xs - 0 ≡ length xs = omega arith in rw k (take_front xs ys)

decimal-found : (n d : ℕ) (cs rest : List ℕ) → AllDigits 10 (d ∷ cs) → digits_value 10 (d ∷ cs) ≡ n → n < 2 ^ 128 → is_rest (byte rest 0) ≡ false
    → decimal (d ∷ (cs ++ rest)) ≡ Some (record { len = suc (length cs); kind = Ok (kinds.Number n) })
unfolding decimal
decimal-found n d cs rest h e small s =
    let v : value 10 (slice_range (d ∷ (cs ++ rest)) 0 (suc (length cs))) ≡ n = ap (value 10) (front-range (d ∷ cs) rest) ∙ worth 10 (d ∷ cs) (omega arith) h ∙ e in
    rw (decimal-long d cs rest h s, v, lt-true n (2 ^ 128) small) (candidate_some (suc (length cs)) (Ok (kinds.Number n)) (omega arith))

no-first : (x : ℕ) (a d : Bool) → cond (a && (false || false) && d) x 0 ≡ 0
no-first x true d = refl
no-first x false d = refl

no-hexadecimal : (s : List ℕ) → byte s 1 ≢ 120 → byte s 1 ≢ 88 → hexadecimal s ≡ None
unfolding hexadecimal hexadecimal_len
no-hexadecimal s a b = rw (ne_eqb (byte s 1) 120 a, ne_eqb (byte s 1) 88 b, no-first _ (nat_eq (byte s 0) 48) (is_digit (byte s 2) 16)) refl

no-second : (x : ℕ) (a d : Bool) → cond (a && false && d) x 0 ≡ 0
no-second x true d = refl
no-second x false d = refl

verilog-none : (s : List ℕ) → byte s (width_len s) ≢ 39 → verilog_len s ≡ 0
unfolding verilog_len
verilog-none s a = rw (ne_eqb (byte s (width_len s)) 39 a) (no-second _ (nat_lt 0 (width_len s)) _)

no-verilog : (s : List ℕ) → byte s (width_len s) ≢ 39 → verilog s ≡ None
unfolding verilog
no-verilog s a = rw (verilog-none s a) refl

rest-no-x : (c : ℕ) → is_rest c ≡ false → (c ≢ 120) × (c ≢ 88)
rest-no-x c h = ((λ e. let f = rw e at h in cc), (λ e. let f = rw e at h in cc))

second-no-x : (cs rest : List ℕ) → AllDigits 10 cs → is_rest (byte rest 0) ≡ false → (byte (cs ++ rest) 0 ≢ 120) × (byte (cs ++ rest) 0 ≢ 88)
second-no-x [] rest h e = rest-no-x (byte rest 0) e
second-no-x (c ∷ cs) rest h e = (omega (arith, digit-high c h.0), omega (arith, digit-high c h.0))

width-is : (ds rest : List ℕ) → AllDigits 10 ds → is_rest (byte rest 0) ≡ false → width_len (ds ++ rest) ≡ length ds
width-is ds rest h e =
    let n : digit_value (byte rest 0) ≡ 36 = no-digit (byte rest 0) e in
    run-digits 10 (λ c. is_digit c 10) ds rest (λ c k. lt-true (digit_value c) 10 k) h (lt-false (digit_value (byte rest 0)) 10 (omega (arith, n)))

digits-word : (at n : ℕ) (ds rest : List ℕ) → 0 < length ds → AllDigits 10 ds → digits_value 10 ds ≡ n → n < 2 ^ 128 → Stops rest
    → words_from 0 at (ds ++ rest) ≡ before (word (kinds.Number n) at ds) (words_from 0 (at + length ds) rest)
digits-word at n [] rest some h e small s = absurd (omega arith)
digits-word at n (d ∷ cs) rest some h e small s =
    let t = d ∷ (cs ++ rest) in
    let x = second-no-x cs rest h.1 s.0 in
    let tick : byte t (width_len t) ≢ 39 = λ q. s.1 (sym (byte-behind (d ∷ cs) rest) ∙ ap (byte t) (sym (width-is (d ∷ cs) rest h s.0)) ∙ q) in
    let found : longest t ≡ Some (record { len = suc (length cs); kind = Ok (kinds.Number n) }) =
    sym (longest_digit t (lt-true (digit_value d) 10 h.0))
    ∙ rw (decimal-found n d cs rest h e small s.0, no-hexadecimal t x.0 x.1, no-verilog t tick) refl in
    front-word at (d ∷ cs) rest (kinds.Number n) h.0 found (omega arith)

pub decimal-part : (n : ℕ) → n < 2 ^ 128 → Part Stops (shown.decimal n) (λ ws. number n ∷ ws)
decimal-part n small rest ws s c =
    let k = decimal_is_IsNumeral_wide n (omega arith) in
    cut-word (kinds.Number n) (shown.decimal n) rest ws (λ at. digits-word at n (shown.decimal n) rest k.0.0 k.0.1 k.1 small s) c

-- ---- Hexadecimal numbers.

front-zero : (cs : List ℕ) → decimal (48 ∷ 120 ∷ cs) ≡ Some (record { len = 1; kind = Ok (kinds.Number 0) })
unfolding decimal decimal_len value
front-zero cs = refl

hexadecimal-long : (d : ℕ) (cs rest : List ℕ) → AllDigits 16 (d ∷ cs) → is_rest (byte rest 0) ≡ false → hexadecimal_len (48 ∷ 120 ∷ d ∷ (cs ++ rest)) ≡ 3 + length cs
unfolding hexadecimal_len
hexadecimal-long d cs rest h e =
    let run = run-digits 16 (is_digit_rest 16) cs rest (goes-on 16) h.1 (stops-rest 16 (byte rest 0) (omega arith) e) in
    rw (lt-true (digit_value d) 16 h.0, run) refl

behind-range : (xs ys : List ℕ) → slice_range (48 ∷ 120 ∷ (xs ++ ys)) 2 (length (48 ∷ 120 ∷ xs)) ≡ xs
behind-range xs ys = let k : length (48 ∷ 120 ∷ xs) - 2 ≡ length xs = omega arith in rw k (take_front xs ys)

hexadecimal-found : (n d : ℕ) (cs rest : List ℕ) → AllDigits 16 (d ∷ cs) → digits_value 16 (d ∷ cs) ≡ n → n < 2 ^ 128 → is_rest (byte rest 0) ≡ false
    → hexadecimal (48 ∷ 120 ∷ d ∷ (cs ++ rest)) ≡ Some (record { len = length (48 ∷ 120 ∷ d ∷ cs); kind = Ok (kinds.Number n) })
unfolding hexadecimal
hexadecimal-found n d cs rest h e small s =
    let v : value 16 (slice_range (48 ∷ 120 ∷ d ∷ (cs ++ rest)) 2 (length (48 ∷ 120 ∷ d ∷ cs))) ≡ n = ap (value 16) (behind-range (d ∷ cs) rest) ∙ worth 16 (d ∷ cs) (omega arith) h ∙ e in
    let long : hexadecimal_len (48 ∷ 120 ∷ d ∷ (cs ++ rest)) ≡ length (48 ∷ 120 ∷ d ∷ cs) = hexadecimal-long d cs rest h s ∙ omega arith in
    rw (long, v, lt-true n (2 ^ 128) small) (candidate_some (length (48 ∷ 120 ∷ d ∷ cs)) (Ok (kinds.Number n)) (omega arith))

hexadecimal-word : (at n : ℕ) (ds rest : List ℕ) → 0 < length ds → AllDigits 16 ds → digits_value 16 ds ≡ n → n < 2 ^ 128 → Stops rest
    → words_from 0 at (48 ∷ 120 ∷ (ds ++ rest)) ≡ before (word (kinds.Number n) at (48 ∷ 120 ∷ ds)) (words_from 0 (at + length (48 ∷ 120 ∷ ds)) rest)
hexadecimal-word at n [] rest some h e small s = absurd (omega arith)
hexadecimal-word at n (d ∷ cs) rest some h e small s =
    let t = 48 ∷ 120 ∷ d ∷ (cs ++ rest) in
    let found : longest t ≡ Some (record { len = length (48 ∷ 120 ∷ d ∷ cs); kind = Ok (kinds.Number n) }) =
    sym (longest_digit t refl)
    ∙ rw (front-zero (d ∷ (cs ++ rest)), hexadecimal-found n d cs rest h e small s.0, no-verilog t (λ q. absurd (omega arith)), lt-true 1 (length (48 ∷ 120 ∷ d ∷ cs)) (omega arith)) refl in
    front-word at (48 ∷ 120 ∷ d ∷ cs) rest (kinds.Number n) (omega arith) found (omega arith)

pub hexadecimal-part : (n : ℕ) → n < 2 ^ 128 → Part Stops (written.hexadecimal n) (λ ws. number n ∷ ws)
hexadecimal-part n small rest ws s c =
    let k = digits_is_IsNumeral 16 true (omega arith) (omega arith) n (omega arith) in
    cut-word (kinds.Number n) (written.hexadecimal n) rest ws (λ at. hexadecimal-word at n (shown.digits 16 true n) rest k.0.0 k.0.1 k.1 small s) c
