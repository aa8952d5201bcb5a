-- What follows a text doesn't change the word at its begin, where a byte follows with which no word goes on.
use Rattle.std.proofs.Common.{◌≡◌, ◌≢◌, ◌⊎◌, ℕ, ◌+◌, ◌-◌, ◌≤◌, Bool, true, false, cond, ◌&&◌, ◌||◌, List, [], ◌∷◌, ◌++◌, length, take, drop, Option, None, inl, inr, refl, sym, ◌∙◌, ap, subst, arith}
use Rattle.std.proofs.lemmas.Bool.{cases_lt}
use Rattle.std.proofs.lemmas.Bool.Decides.{nat_tests}
use Rattle.std.proofs.lemmas.List.{length-drop, drop-drop, get_or-drop, take-append-le, drop-append-le}
use Rattle.std.proofs.lemmas.List.Sums.{prefix_len-le-length}
use Rattle.std.specs.Char.{is_digit, digit_value}
use Rattle.std.specs.List.{prefix_len}
use Rattle.std.specs.Prelude.{nat_eq, nat_lt, slice_range}
use Rattle.rdl_text.specs.Name.{is_rest}
use Rattle.rdl_text.specs.Number.{value}
use Rattle.rdl_text.specs.Rows.{byte, is_digit_rest, identifier_len, decimal_len, hexadecimal_len, width_len, base_of, verilog_len, long_mark}
use Rattle.rdl_text.specs.Words.{candidate, number, sized, identifier, decimal, hexadecimal, verilog, mark, longest}
use Rattle.rdl_text.specs.Piece.{Candidate}
use Rattle.rdl_text.proofs.Longest.{no_string}

-- the end of a text, a line feed or a semicolon: no word goes on with it
abbrev pub Quiet : ℕ → Type 0
Quiet c = (c ≡ 0) ⊎ ((c ≡ 10) ⊎ (c ≡ 59))

-- what is so of those three
of_three : (P : ℕ → Type 0) (c : ℕ) → P 0 → P 10 → P 59 → Quiet c → P c
of_three P c x y z (inl e) = subst P (sym e) x
of_three P c x y z (inr (inl e)) = subst P (sym e) y
of_three P c x y z (inr (inr e)) = subst P (sym e) z

no_rest : (c : ℕ) → Quiet c → is_rest c ≡ false
no_rest c q = of_three (λ d. is_rest d ≡ false) c refl refl refl q

not_below : (n m : ℕ) → m ≤ n → nat_lt n m ≡ false
not_below n m h = grind (arith, nat_tests)

no_digit : (base c : ℕ) → base ≤ 16 → Quiet c → is_digit c base ≡ false
no_digit base c h q = of_three (λ d. is_digit d base ≡ false) c (not_below (digit_value 0) base (omega (arith, h))) (not_below (digit_value 10) base (omega (arith, h))) (not_below (digit_value 59) base (omega (arith, h))) q

no_underscore : (c : ℕ) → Quiet c → nat_eq c 95 ≡ false
no_underscore c q = of_three (λ d. nat_eq d 95 ≡ false) c refl refl refl q

no_digit_rest : (base c : ℕ) → base ≤ 16 → Quiet c → is_digit_rest base c ≡ false
no_digit_rest base c h q = rw (no_digit base c h q, no_underscore c q) refl

base_small : (c : ℕ) → base_of c ≤ 16
base_small c = grind (arith, nat_tests)

-- ---- Runs.

pub run_stops : (p : ℕ → Bool) (xs t : List ℕ) → p (byte t 0) ≡ false → prefix_len p (xs ++ t) ≡ prefix_len p xs
run_stops p [] [] e = refl
run_stops p [] (c ∷ cs) e = rw e refl
run_stops p (x ∷ xs) t e = ap (λ k. cond (p x) (1 + k) 0) (run_stops p xs t e)

same_slice : (xs t : List ℕ) (i j : ℕ) → j ≤ length xs → slice_range (xs ++ t) i j ≡ slice_range xs i j
same_slice xs t i j h =
    elim (cases_lt (length xs) i) [
      | inl past ↦
          let none : j - i ≡ 0 = omega (arith, past, h) in
          ap (λ k. take k (drop i (xs ++ t))) none ∙ sym (ap (λ k. take k (drop i xs)) none)
      | inr within ↦
          ap (take (j - i)) (drop-append-le i xs t within) ∙ take-append-le (j - i) (drop i xs) t (omega (arith, length-drop i xs, h))
    ]

pub cond_le : (b : Bool) (x z : ℕ) → x ≤ z → cond b x 0 ≤ z
cond_le true x z h = h
cond_le false x z h = omega arith

and_none : (a : Bool) → (a && false) ≡ false
and_none true = refl
and_none false = refl

-- ---- Rows.

same_identifier : (c : ℕ) (cs t : List ℕ) → Quiet (byte t 0) → identifier (c ∷ (cs ++ t)) ≡ identifier (c ∷ cs)
unfolding identifier identifier_len
same_identifier c cs t q = rw (run_stops is_rest cs t (no_rest (byte t 0) q)) refl

same_decimal_len : (c : ℕ) (cs t : List ℕ) → Quiet (byte t 0) → decimal_len (c ∷ (cs ++ t)) ≡ decimal_len (c ∷ cs)
unfolding decimal_len
same_decimal_len c cs t q = rw (run_stops (is_digit_rest 10) cs t (no_digit_rest 10 (byte t 0) (omega arith) q)) refl

pub decimal_within : (c : ℕ) (cs : List ℕ) → decimal_len (c ∷ cs) ≤ length (c ∷ cs)
unfolding decimal_len
decimal_within c cs = cond_le (is_digit c 10) (1 + prefix_len (is_digit_rest 10) cs) (length (c ∷ cs)) (omega (arith, prefix_len-le-length (is_digit_rest 10) cs))

same_decimal : (c : ℕ) (cs t : List ℕ) → Quiet (byte t 0) → decimal (c ∷ (cs ++ t)) ≡ decimal (c ∷ cs)
unfolding decimal
same_decimal c cs t q =
    ap (λ n. candidate n (number (value 10 (slice_range (c ∷ (cs ++ t)) 0 n)))) (same_decimal_len c cs t q)
    ∙ ap (λ s. candidate (decimal_len (c ∷ cs)) (number (value 10 s))) (same_slice (c ∷ cs) t 0 (decimal_len (c ∷ cs)) (decimal_within c cs))

hexadecimal_one : (c : ℕ) (t : List ℕ) → Quiet (byte t 0) → hexadecimal_len (c ∷ t) ≡ 0
unfolding hexadecimal_len
hexadecimal_one c t q =
    let small = of_three (λ d. nat_eq d 120 ≡ false) (byte t 0) refl refl refl q in
    let large = of_three (λ d. nat_eq d 88 ≡ false) (byte t 0) refl refl refl q in
    rw (small, large, and_none (nat_eq c 48)) refl

hexadecimal_two : (c d : ℕ) (t : List ℕ) → Quiet (byte t 0) → hexadecimal_len (c ∷ d ∷ t) ≡ 0
unfolding hexadecimal_len
hexadecimal_two c d t q =
    rw (no_digit 16 (byte t 0) (omega arith) q, and_none (nat_eq c 48 && (nat_eq d 120 || nat_eq d 88))) refl

same_hexadecimal_len : (c : ℕ) (cs t : List ℕ) → Quiet (byte t 0) → hexadecimal_len (c ∷ (cs ++ t)) ≡ hexadecimal_len (c ∷ cs)
unfolding hexadecimal_len
same_hexadecimal_len c [] t q = hexadecimal_one c t q ∙ sym (hexadecimal_one c [] (inl refl))
same_hexadecimal_len c (d ∷ []) t q = hexadecimal_two c d t q ∙ sym (hexadecimal_two c d [] (inl refl))
same_hexadecimal_len c (d ∷ e ∷ es) t q = rw (run_stops (is_digit_rest 16) es t (no_digit_rest 16 (byte t 0) (omega arith) q)) refl

pub hexadecimal_within : (c : ℕ) (cs : List ℕ) → hexadecimal_len (c ∷ cs) ≤ length (c ∷ cs)
unfolding hexadecimal_len
hexadecimal_within c [] = omega (arith, hexadecimal_one c [] (inl refl))
hexadecimal_within c (d ∷ []) = omega (arith, hexadecimal_two c d [] (inl refl))
hexadecimal_within c (d ∷ e ∷ es) = cond_le _ (3 + prefix_len (is_digit_rest 16) es) (length (c ∷ d ∷ e ∷ es)) (omega (arith, prefix_len-le-length (is_digit_rest 16) es))

same_hexadecimal : (c : ℕ) (cs t : List ℕ) → Quiet (byte t 0) → hexadecimal (c ∷ (cs ++ t)) ≡ hexadecimal (c ∷ cs)
unfolding hexadecimal
same_hexadecimal c cs t q =
    ap (λ n. candidate n (number (value 16 (slice_range (c ∷ (cs ++ t)) 2 n)))) (same_hexadecimal_len c cs t q)
    ∙ ap (λ s. candidate (hexadecimal_len (c ∷ cs)) (number (value 16 s))) (same_slice (c ∷ cs) t 2 (hexadecimal_len (c ∷ cs)) (hexadecimal_within c cs))

-- ---- Verilog numbers, by what stands behind the width.

unfoldable pub quoted_digits : (w : ℕ) → List ℕ → ℕ
quoted_digits w r =
    cond (nat_lt 0 w && nat_eq (byte r 0) 39 && is_digit (byte r 2) (base_of (byte r 1))) (w + 3 + prefix_len (is_digit_rest (base_of (byte r 1))) (drop 3 r)) 0

unfoldable pub verilog_by : (w : ℕ) (s r : List ℕ) → Option Candidate
verilog_by w s r =
    candidate (quoted_digits w r) (sized (value 10 (slice_range s 0 w)) (value (base_of (byte r 1)) (slice_range s (w + 2) (quoted_digits w r))))

behind_width : (w : ℕ) (s : List ℕ) → w ≡ width_len s → verilog_len s ≡ quoted_digits w (drop w s)
unfolding verilog_len quoted_digits
behind_width w s e =
    let none : width_len s + 0 ≡ width_len s = omega arith in
    sym (rw (e, get_or-drop (width_len s) s 0 0, none, get_or-drop (width_len s) s 1 0, get_or-drop (width_len s) s 2 0, drop-drop 3 (width_len s) s) refl)

pub verilog_is : (s : List ℕ) → verilog s ≡ verilog_by (width_len s) s (drop (width_len s) s)
unfolding verilog verilog_by
verilog_is s = sym (rw (← behind_width (width_len s) s refl, get_or-drop (width_len s) s 1 0) refl)

pub no_quoted_none : (w : ℕ) (t : List ℕ) → Quiet (byte t 0) → quoted_digits w t ≡ 0
unfolding quoted_digits
no_quoted_none w t q = rw (of_three (λ d. nat_eq d 39 ≡ false) (byte t 0) refl refl refl q, and_none (nat_lt 0 w)) refl

pub no_quoted_one : (w a : ℕ) (t : List ℕ) → Quiet (byte t 0) → quoted_digits w (a ∷ t) ≡ 0
unfolding quoted_digits
no_quoted_one w a t q =
    let zero : base_of (byte t 0) ≡ 0 = of_three (λ d. base_of d ≡ 0) (byte t 0) refl refl refl q in
    rw (zero, not_below (digit_value (byte t 1)) 0 (omega arith), and_none (nat_lt 0 w && nat_eq a 39)) refl

pub no_quoted_two : (w a b : ℕ) (t : List ℕ) → Quiet (byte t 0) → quoted_digits w (a ∷ b ∷ t) ≡ 0
unfolding quoted_digits
no_quoted_two w a b t q =
    rw (no_digit (base_of b) (byte t 0) (base_small b) q, and_none (nat_lt 0 w && nat_eq a 39)) refl

none_by : (w : ℕ) (s r : List ℕ) → quoted_digits w r ≡ 0 → verilog_by w s r ≡ None
unfolding verilog_by
none_by w s r e = rw e refl

same_digits : (w a b c : ℕ) (ys t : List ℕ) → Quiet (byte t 0) → quoted_digits w (a ∷ b ∷ c ∷ (ys ++ t)) ≡ quoted_digits w (a ∷ b ∷ c ∷ ys)
unfolding quoted_digits
same_digits w a b c ys t q = rw (run_stops (is_digit_rest (base_of b)) ys t (no_digit_rest (base_of b) (byte t 0) (base_small b) q)) refl

pub digits_within : (w a b c : ℕ) (ys : List ℕ) (n : ℕ) → w + 3 + length ys ≤ n → quoted_digits w (a ∷ b ∷ c ∷ ys) ≤ n
unfolding quoted_digits
digits_within w a b c ys n h = cond_le _ (w + 3 + prefix_len (is_digit_rest (base_of b)) ys) n (omega (arith, prefix_len-le-length (is_digit_rest (base_of b)) ys, h))

same_by : (w : ℕ) (x y t : List ℕ) → w + length y ≤ length x → Quiet (byte t 0) → verilog_by w (x ++ t) (y ++ t) ≡ verilog_by w x y
unfolding verilog_by
same_by w x [] t h q = none_by w (x ++ t) t (no_quoted_none w t q) ∙ sym (none_by w x [] (no_quoted_none w [] (inl refl)))
same_by w x (a ∷ []) t h q = none_by w (x ++ t) (a ∷ t) (no_quoted_one w a t q) ∙ sym (none_by w x (a ∷ []) (no_quoted_one w a [] (inl refl)))
same_by w x (a ∷ b ∷ []) t h q = none_by w (x ++ t) (a ∷ b ∷ t) (no_quoted_two w a b t q) ∙ sym (none_by w x (a ∷ b ∷ []) (no_quoted_two w a b [] (inl refl)))
same_by w x (a ∷ b ∷ c ∷ ys) t h q =
    let n = quoted_digits w (a ∷ b ∷ c ∷ ys) in
    let within : n ≤ length x = digits_within w a b c ys (length x) (omega (arith, h)) in
    ap (λ k. candidate k (sized (value 10 (slice_range (x ++ t) 0 w)) (value (base_of b) (slice_range (x ++ t) (w + 2) k)))) (same_digits w a b c ys t q)
    ∙ (ap (λ s. candidate n (sized (value 10 s) (value (base_of b) (slice_range (x ++ t) (w + 2) n)))) (same_slice x t 0 w (omega (arith, h)))
    ∙ ap (λ s. candidate n (sized (value 10 (slice_range x 0 w)) (value (base_of b) s))) (same_slice x t (w + 2) n within))

same_verilog : (x t : List ℕ) → Quiet (byte t 0) → verilog (x ++ t) ≡ verilog x
same_verilog x t q =
    let w = width_len x in
    let same : width_len (x ++ t) ≡ w = run_stops (λ c. is_digit c 10) x t (no_digit 10 (byte t 0) (omega arith) q) in
    let low : w ≤ length x = prefix_len-le-length (λ c. is_digit c 10) x in
    verilog_is (x ++ t)
    ∙ (ap (λ k. verilog_by k (x ++ t) (drop k (x ++ t))) same
    ∙ (ap (verilog_by w (x ++ t)) (drop-append-le w x t low)
    ∙ (same_by w x (drop w x) t (omega (arith, length-drop w x, low)) q ∙ sym (verilog_is x))))

-- ---- Marks and strings.

pub no_long : (c d : ℕ) → Quiet d → long_mark c d ≡ None
no_long c d q =
    let a = of_three (λ e. nat_eq e 61 ≡ false) d refl refl refl q in
    let b = of_three (λ e. nat_eq e 62 ≡ false) d refl refl refl q in
    rw (a, b, and_none (nat_eq c 43), and_none (nat_eq c 37), and_none (nat_eq c 45)) refl

same_mark : (c : ℕ) (cs t : List ℕ) → Quiet (byte t 0) → mark (c ∷ (cs ++ t)) ≡ mark (c ∷ cs)
unfolding mark
same_mark c [] t q = rw (no_long c (byte t 0) q, no_long c 0 (inl refl)) refl
same_mark c (d ∷ ds) t q = refl

pub same_longest : (c : ℕ) (cs t : List ℕ) → c ≢ 34 → Quiet (byte t 0) → longest (c ∷ (cs ++ t)) ≡ longest (c ∷ cs)
unfolding longest
same_longest c cs t ne q =
    rw (same_identifier c cs t q, same_decimal c cs t q, same_hexadecimal c cs t q, same_verilog (c ∷ cs) t q, same_mark c cs t q, no_string (c ∷ (cs ++ t)) ne, no_string (c ∷ cs) ne) refl
