-- The digits of a number are those of its sixteenth, and then the last one.
use Rattle.std.proofs.Common.{◌≡◌, ℕ, zero, suc, ◌+◌, ◌/◌, ◌%◌, ◌^◌, ◌<◌, ◌≤◌, ◌⊎◌, inl, inr, true, List, [], ◌∷◌, ◌++◌, cond, refl, ap, sym, ◌∙◌, append_assoc, length, length-append, arith}
use Rattle.std.specs.Fmt.{digit_glyph, digits_onto, digits}
use Rattle.std.proofs.lemmas.Fmt.{hex_one_digit}
use Rattle.std.proofs.lemmas.Bool.{cases_lt, ne_eqb, eq-eqb}

abbrev spell : ℕ → ℕ → List ℕ → List ℕ
spell k n acc = digits_onto k 16 true n acc

abbrev last_digit : ℕ → ℕ
last_digit n = digit_glyph true (n % 16)

spell_last : (k n : ℕ) (acc : List ℕ) → n < 16 → spell (suc k) n acc ≡ last_digit n ∷ acc
spell_last k n acc h = ap (λ t. cond t (last_digit n ∷ acc) (spell k (n / 16) (last_digit n ∷ acc))) (eq-eqb (n / 16) 0 (omega arith))

spell_next : (k n : ℕ) (acc : List ℕ) → 16 ≤ n → spell (suc k) n acc ≡ spell k (n / 16) (last_digit n ∷ acc)
spell_next k n acc h = ap (λ t. cond t (last_digit n ∷ acc) (spell k (n / 16) (last_digit n ∷ acc))) (ne_eqb (n / 16) 0 (λ e. omega arith))

-- what is written so far stays behind
spell-append : (k n : ℕ) (acc : List ℕ) → spell k n acc ≡ spell k n [] ++ acc
spell-append zero n acc = refl
spell-append (suc k) n acc = by_size (spell-append k (n / 16)) (cases_lt n 16)
  where
    by_size : ((acc : List ℕ) → spell k (n / 16) acc ≡ spell k (n / 16) [] ++ acc) → ((n < 16) ⊎ (16 ≤ n)) → spell (suc k) n acc ≡ spell (suc k) n [] ++ acc
    by_size f (inl l) = spell_last k n acc l ∙ ap (λ x. x ++ acc) (sym (spell_last k n [] l))
    by_size f (inr l) =
        spell_next k n acc l ∙ f (last_digit n ∷ acc) ∙ sym (append_assoc (spell k (n / 16) []) (last_digit n ∷ []) acc)
        ∙ ap (λ x. x ++ acc) (sym (spell_next k n [] l ∙ f (last_digit n ∷ [])))

-- how many digits there may be makes no difference where they are enough
spell_enough : (j k n : ℕ) (acc : List ℕ) → n < 16 ^ suc j → n < 16 ^ suc k → spell (suc j) n acc ≡ spell (suc k) n acc
spell_enough zero k n acc p q = spell_last zero n acc (omega arith) ∙ sym (spell_last k n acc (omega arith))
spell_enough (suc j) zero n acc p q = spell_last (suc j) n acc (omega arith) ∙ sym (spell_last zero n acc (omega arith))
spell_enough (suc j) (suc k) n acc p q = by_size (spell_enough j k (n / 16) (last_digit n ∷ acc) (omega arith) (omega arith)) (cases_lt n 16)
  where
    by_size : spell (suc j) (n / 16) (last_digit n ∷ acc) ≡ spell (suc k) (n / 16) (last_digit n ∷ acc) → ((n < 16) ⊎ (16 ≤ n)) → spell (suc (suc j)) n acc ≡ spell (suc (suc k)) n acc
    by_size f (inl l) = spell_last (suc j) n acc l ∙ sym (spell_last (suc k) n acc l)
    by_size f (inr l) = spell_next (suc j) n acc l ∙ f ∙ sym (spell_next (suc k) n acc l)

spelled : (n : ℕ) → spell 64 n [] ≡ digits 16 true n
unfolding digits
spelled n = refl

pub digits_more : (n : ℕ) → 16 ≤ n → n < 2 ^ 128 → digits 16 true n ≡ digits 16 true (n / 16) ++ digits 16 true (n % 16)
digits_more n h small =
    sym (spelled n) ∙ spell_next 63 n [] h ∙ spell_enough 62 63 (n / 16) (last_digit n ∷ []) (omega arith) (omega arith) ∙ spell-append 64 (n / 16) (last_digit n ∷ [])
    ∙ ap (λ x. x ++ last_digit n ∷ []) (spelled (n / 16)) ∙ ap (λ x. digits 16 true (n / 16) ++ x) (sym (hex_one_digit true (n % 16) (omega arith)))

pub length-digits_more : (n : ℕ) → 16 ≤ n → n < 2 ^ 128 → length (digits 16 true n) ≡ length (digits 16 true (n / 16)) + 1
length-digits_more n h small =
    ap length (digits_more n h small) ∙ length-append (digits 16 true (n / 16)) (digits 16 true (n % 16))
    ∙ ap (λ x. length (digits 16 true (n / 16)) + length x) (hex_one_digit true (n % 16) (omega arith))

pub more_digits : (n d : ℕ) (old front new : List ℕ) → 16 ≤ n → n < 2 ^ 128 → d ≡ n % 16 → front ≡ old ++ digits 16 true (n / 16) → new ≡ front ++ digits 16 true d → new ≡ old ++ digits 16 true n
more_digits n d old front new h small is f g =
    g ∙ ap (λ x. x ++ digits 16 true d) f ∙ append_assoc old (digits 16 true (n / 16)) (digits 16 true d)
    ∙ ap (λ x. old ++ (digits 16 true (n / 16) ++ digits 16 true x)) is ∙ ap (λ x. old ++ x) (sym (digits_more n h small))

-- the last digit goes before what stands behind the number
pub digits_put : (n d : ℕ) (new behind : List ℕ) → 16 ≤ n → n < 2 ^ 128 → d ≡ digit_glyph true (n % 16) → new ≡ d ∷ behind → digits 16 true (n / 16) ++ new ≡ digits 16 true n ++ behind
digits_put n d new behind h small is put =
    ap (λ x. digits 16 true (n / 16) ++ x) (put ∙ ap (λ x. x ∷ behind) is)
    ∙ sym (append_assoc (digits 16 true (n / 16)) (last_digit n ∷ []) behind)
    ∙ ap (λ x. (digits 16 true (n / 16) ++ x) ++ behind) (sym (hex_one_digit true (n % 16) (omega arith)))
    ∙ ap (λ x. x ++ behind) (sym (digits_more n h small))

-- how many digits a number has
pub length-digits : (k n : ℕ) → n < 16 ^ suc k → n < 2 ^ 128 → length (digits 16 true n) ≤ suc k
length-digits zero n h small = omega (arith, ap length (hex_one_digit true n (omega arith)))
length-digits (suc k) n h small = by_size (length-digits k (n / 16) (omega arith) (omega arith)) (cases_lt n 16)
  where
    by_size : length (digits 16 true (n / 16)) ≤ suc k → ((n < 16) ⊎ (16 ≤ n)) → length (digits 16 true n) ≤ suc (suc k)
    by_size front (inl l) = omega (arith, ap length (hex_one_digit true n l))
    by_size front (inr l) = omega (arith, length-digits_more n l small, front)

pub length-digits_short : (n : ℕ) → n < 2 ^ 64 → length (digits 16 true n) ≤ 16
length-digits_short n h = length-digits 15 n (omega arith) (omega arith)

digits_some : (n : ℕ) → n < 2 ^ 128 → 1 ≤ length (digits 16 true n)
digits_some n small = by_size (cases_lt n 16)
  where
    by_size : ((n < 16) ⊎ (16 ≤ n)) → 1 ≤ length (digits 16 true n)
    by_size (inl l) = omega (arith, ap length (hex_one_digit true n l))
    by_size (inr l) = omega (arith, length-digits_more n l small)

-- there is room for one more digit while the front of the number isn't there yet
pub digits_fit : (left number : ℕ) (now before : List ℕ) → left < 2 ^ 64 → number < 2 ^ 64 → length before + 16 ≤ 64 → digits 16 true left ++ now ≡ digits 16 true number ++ before → length now < 64
digits_fit left number now before l n room same =
    omega (arith, digits_some left (omega arith), length-digits_short number n, ap length same, length-append (digits 16 true left) now, length-append (digits 16 true number) before)

-- the first digit goes before the others
pub digits_end : (n d : ℕ) (new now all : List ℕ) → n < 16 → d ≡ digit_glyph true n → new ≡ d ∷ now → digits 16 true n ++ now ≡ all → new ≡ all
digits_end n d new now all h is put same = put ∙ ap (λ x. x ∷ now) is ∙ ap (λ x. x ++ now) (sym (hex_one_digit true n h)) ∙ same

-- a digit is one byte
pub digit_pushed : (d glyph : ℕ) (old bytes new : List ℕ) → d < 16 → glyph ≡ digit_glyph true d → bytes ≡ glyph ∷ [] → new ≡ old ++ bytes → new ≡ old ++ digits 16 true d
digit_pushed d glyph old bytes new small is one more = more ∙ ap (λ x. old ++ x) (one ∙ ap (λ g. g ∷ []) is ∙ sym (hex_one_digit true d small))

pub one_digit : (n : ℕ) → n < 16 → n % 16 ≡ n
one_digit n h = omega arith

pub ruleset digits_are = (digits_more, one_digit)
