-- At most one row but for numbers has a word that begins with a given byte, so the longest word is of that row.
use Rattle.std.proofs.Common.{◌≡◌, ◌≢◌, ◌⊎◌, ℕ, ◌≤◌, Bool, true, false, List, [], ◌∷◌, Option, Some, None, inl, inr, refl, sym, ap, arith}
use Rattle.std.proofs.lemmas.Bool.{ne_eqb, ltb-true}
use Rattle.std.proofs.lemmas.Bool.Decides.{nat_tests}
use Rattle.std.proofs.lemmas.Str.Parse.{digit_from_value}
use Rattle.std.specs.Char.{is_digit}
use Rattle.rdl_text.specs.Name.{is_letter}
use Rattle.rdl_text.specs.Rows.{byte, identifier_len, decimal_len, hexadecimal_len, width_len, verilog_len, string_len, short_mark, long_mark}
use Rattle.rdl_text.specs.Words.{identifier, decimal, hexadecimal, verilog, string, mark, longer, longest}
use Rattle.rdl_text.specs.Piece.{Candidate}
use Rattle.std.specs.Prelude.{nat_eq}

pub longer_none : (x : Option Candidate) → longer x None ≡ x
longer_none None = refl
longer_none (Some x) = refl

not_true : (b : Bool) → (b ≡ true → ⊥) → b ≡ false
not_true true h = absurd (h refl)
not_true false h = refl

pub no_identifier : (s : List ℕ) → is_letter (byte s 0) ≡ false → identifier s ≡ None
unfolding identifier identifier_len
no_identifier s e = rw e refl

pub no_decimal : (s : List ℕ) → is_digit (byte s 0) 10 ≡ false → decimal s ≡ None
unfolding decimal decimal_len
no_decimal s e = rw e refl

no_zero : (c : ℕ) → is_digit c 10 ≡ false → c ≢ 48
no_zero c e z = let f = rw z at e in cc

pub no_hexadecimal : (s : List ℕ) → is_digit (byte s 0) 10 ≡ false → hexadecimal s ≡ None
unfolding hexadecimal hexadecimal_len
no_hexadecimal s e = rw (ne_eqb (byte s 0) 48 (no_zero (byte s 0) e)) refl

no_width : (s : List ℕ) → is_digit (byte s 0) 10 ≡ false → width_len s ≡ 0
no_width [] e = refl
no_width (c ∷ cs) e = rw e refl

pub no_verilog : (s : List ℕ) → is_digit (byte s 0) 10 ≡ false → verilog s ≡ None
unfolding verilog verilog_len
no_verilog s e = rw (no_width s e) refl

pub no_string : (s : List ℕ) → byte s 0 ≢ 34 → string s ≡ None
unfolding string string_len
no_string s ne = rw (ne_eqb (byte s 0) 34 ne) refl

pub no_short : (c : ℕ) → c ≢ 123 → c ≢ 125 → c ≢ 91 → c ≢ 93 → c ≢ 58 → c ≢ 59 → c ≢ 44 → c ≢ 46 → c ≢ 61 → c ≢ 64 → short_mark c ≡ None
no_short c a b d e f g h i j k =
    rw (ne_eqb c 123 a, ne_eqb c 125 b, ne_eqb c 91 d, ne_eqb c 93 e, ne_eqb c 58 f, ne_eqb c 59 g, ne_eqb c 44 h, ne_eqb c 46 i, ne_eqb c 61 j, ne_eqb c 64 k) refl

pub no_long : (c d : ℕ) → c ≢ 43 → c ≢ 37 → c ≢ 45 → long_mark c d ≡ None
no_long c d a b e = rw (ne_eqb c 43 a, ne_eqb c 37 b, ne_eqb c 45 e) refl

pub no_mark : (s : List ℕ) → short_mark (byte s 0) ≡ None → long_mark (byte s 0) (byte s 1) ≡ None → mark s ≡ None
unfolding mark
no_mark s e f = rw (e, f) refl

letter_low : (c : ℕ) → is_letter c ≡ true → 65 ≤ c
letter_low c h = grind (arith, nat_tests)

letter_high : (c : ℕ) → is_letter c ≡ true → c ≤ 122
letter_high c h = grind (arith, nat_tests)

letter_91 : (c : ℕ) → is_letter c ≡ true → c ≢ 91
letter_91 c h e = let f = rw e at h in cc

letter_93 : (c : ℕ) → is_letter c ≡ true → c ≢ 93
letter_93 c h e = let f = rw e at h in cc

letter_no_digit : (c : ℕ) → is_letter c ≡ true → is_digit c 10 ≡ false
letter_no_digit c h = not_true _ (λ d. let r = digit_from_value c (ltb-true _ _ d) in absurd (omega (arith, letter_low c h, r.1)))

pub letter_no_mark : (s : List ℕ) → is_letter (byte s 0) ≡ true → mark s ≡ None
letter_no_mark s h =
    let c = byte s 0 in
    let low = letter_low c h in
    let high = letter_high c h in
    no_mark s
    (no_short c (omega (arith, high)) (omega (arith, high)) (letter_91 c h) (letter_93 c h) (omega (arith, low)) (omega (arith, low)) (omega (arith, low)) (omega (arith, low)) (omega (arith, low)) (omega (arith, low)))
    (no_long c (byte s 1) (omega (arith, low)) (omega (arith, low)) (omega (arith, low)))

pub longest_letter : (s : List ℕ) → is_letter (byte s 0) ≡ true → identifier s ≡ longest s
unfolding longest
longest_letter s h =
    let d = letter_no_digit (byte s 0) h in
    let quote : byte s 0 ≢ 34 = omega (arith, letter_low (byte s 0) h) in
    sym (rw (no_decimal s d, no_hexadecimal s d, no_verilog s d, no_string s quote, letter_no_mark s h) (longer_none (identifier s)))

digit_low : (c : ℕ) → is_digit c 10 ≡ true → 48 ≤ c
digit_low c d = (digit_from_value c (ltb-true _ _ d)).0

digit_high : (c : ℕ) → is_digit c 10 ≡ true → c ≤ 57
digit_high c d = (digit_from_value c (ltb-true _ _ d)).1

pub digit_no_quote : (c : ℕ) → is_digit c 10 ≡ true → c ≢ 34
digit_no_quote c d e = absurd (omega (arith, digit_low c d))

digit_no_letter : (c : ℕ) → is_digit c 10 ≡ true → is_letter c ≡ false
digit_no_letter c d = not_true _ (λ h. absurd (omega (arith, letter_low c h, digit_high c d)))

pub digit_no_mark : (s : List ℕ) → is_digit (byte s 0) 10 ≡ true → mark s ≡ None
digit_no_mark s d =
    let c = byte s 0 in
    let low = digit_low c d in
    let high = digit_high c d in
    no_mark s
    (no_short c (omega (arith, high)) (omega (arith, high)) (omega (arith, high)) (omega (arith, high)) (omega (arith, high)) (omega (arith, high)) (omega (arith, low)) (omega (arith, low)) (omega (arith, high)) (omega (arith, high)))
    (no_long c (byte s 1) (omega (arith, low)) (omega (arith, low)) (omega (arith, low)))

pub longest_digit : (s : List ℕ) → is_digit (byte s 0) 10 ≡ true → longer (decimal s) (longer (hexadecimal s) (verilog s)) ≡ longest s
unfolding longest
longest_digit s d =
    let quote : byte s 0 ≢ 34 = omega (arith, digit_low (byte s 0) d) in
    sym (rw (no_identifier s (digit_no_letter (byte s 0) d), no_string s quote, digit_no_mark s d, longer_none (verilog s)) refl)

pub quote_no_mark : (s : List ℕ) → byte s 0 ≡ 34 → mark s ≡ None
quote_no_mark s e = no_mark s (rw e refl) (rw e refl)

pub longest_quote : (s : List ℕ) → byte s 0 ≡ 34 → string s ≡ longest s
unfolding longest
longest_quote s e =
    let d : is_digit (byte s 0) 10 ≡ false = rw e refl in
    sym (rw (no_identifier s (rw e refl), no_decimal s d, no_hexadecimal s d, no_verilog s d, quote_no_mark s e) (longer_none (string s)))

pub longest_other : (s : List ℕ) → is_letter (byte s 0) ≡ false → is_digit (byte s 0) 10 ≡ false → byte s 0 ≢ 34 → mark s ≡ longest s
unfolding longest
longest_other s l d q =
    sym (rw (no_identifier s l, no_decimal s d, no_hexadecimal s d, no_verilog s d, no_string s q) refl)

-- ---- What the second byte of a number says.

pub no_second_x : (s : List ℕ) → byte s 1 ≢ 120 → byte s 1 ≢ 88 → hexadecimal s ≡ None
unfolding hexadecimal hexadecimal_len
no_second_x s small large = by-first (nat_eq (byte s 0) 48) refl
  where
    by-first : (b : Bool) → nat_eq (byte s 0) 48 ≡ b → hexadecimal s ≡ None
    by-first true e = rw (e, ne_eqb (byte s 1) 120 small, ne_eqb (byte s 1) 88 large) refl
    by-first false e = rw e refl

narrow : (s : List ℕ) → is_digit (byte s 1) 10 ≡ false → (width_len s ≡ 0) ⊎ (width_len s ≡ 1)
narrow [] e = inl refl
narrow (c ∷ cs) e = by-first (is_digit c 10) refl
  where
    by-first : (b : Bool) → is_digit c 10 ≡ b → (width_len (c ∷ cs) ≡ 0) ⊎ (width_len (c ∷ cs) ≡ 1)
    by-first true d = inr (rw (d, no_width cs e) refl)
    by-first false d = inl (rw d refl)

no_quoted : (s : List ℕ) → is_digit (byte s 1) 10 ≡ false → byte s 1 ≢ 39 → verilog s ≡ None
unfolding verilog verilog_len
no_quoted s e ne =
    elim (narrow s e) [
      | inl none ↦ rw none refl
      | inr one ↦ rw (one, ne_eqb (byte s 1) 39 ne) refl
    ]

pub no_width_x : (s : List ℕ) → (byte s 1 ≡ 120) ⊎ (byte s 1 ≡ 88) → verilog s ≡ None
no_width_x s (inl small) = no_quoted s (rw small refl) (omega arith)
no_width_x s (inr large) = no_quoted s (rw large refl) (omega arith)
