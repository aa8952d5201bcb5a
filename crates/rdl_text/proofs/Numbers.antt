-- What digits are worth, one more at a time, and numbers that have too many bits.
use Rattle.std.proofs.Common.{◌≡◌, ◌≢◌, ℕ, suc, ◌+◌, ◌*◌, ◌^◌, ◌<◌, ◌≤◌, nat_lt, Bool, true, false, not, List, [], ◌∷◌, length, get_or, drop, Some, None, Ok, refl, ◌∙◌, subst, arith}
use Rattle.std.proofs.Math.Nat.{mul-le-mul_left, le_refl, le_trans}
use Rattle.std.proofs.lemmas.Nat.{pow-add}
use Rattle.std.proofs.lemmas.List.Sums.{length-filter, count_by-le-length}
use Rattle.std.proofs.Math.Pow.{pow_mono}
use Rattle.std.proofs.lemmas.Bool.{ne_eqb, le-ltb, lt-ltb}
use Rattle.std.proofs.lemmas.Bool.Decides.{nat_tests}
use Rattle.std.proofs.lemmas.List.{at_drop_more}
use Rattle.std.specs.Char.{digit_value}
use Rattle.std.specs.List.{filter}
use Rattle.std.specs.Str.Parse.{digits_value_after}
use Rattle.rdl_text.specs.Number.{number_bits, is_underscore, value, in_bits}

abbrev pub counts : ℕ → Bool
counts c = not (is_underscore c)

-- the digits behind those that are worth v
abbrev pub value_after : (base v : ℕ) → List ℕ → ℕ
value_after base v digits = digits_value_after base v (filter counts digits)

pub value_is : (base : ℕ) (digits : List ℕ) → value base digits ≡ value_after base 0 digits
unfolding value
value_is base digits = refl

pub le-value_after : (base n : ℕ) (ds : List ℕ) → 1 ≤ base → n ≤ digits_value_after base n ds
le-value_after base n [] h = le_refl n
le-value_after base n (d ∷ ds) h =
    let step : n ≤ n * base + digit_value d = omega (arith, mul-le-mul_left n h) in
    le_trans step (le-value_after base (n * base + digit_value d) ds h)

pub value_after-digit : (base v i : ℕ) (ds : List ℕ) → i < length ds → get_or ds i 0 ≢ 95
    → value_after base v (drop i ds) ≡ value_after base (v * base + digit_value (get_or ds i 0)) (drop (i + 1) ds)
value_after-digit base v i ds h ne = at_drop_more (value_after base v) ds i 0 h ∙ rw (ne_eqb (get_or ds i 0) 95 ne) refl

pub too_large : (v : ℕ) → in_bits v ≡ None → 2 ^ number_bits ≤ v
too_large v e = grind (arith, nat_tests)

pub past_width : (v w : ℕ) → in_bits v ≡ None → w ≤ number_bits → nat_lt v (2 ^ w) ≡ false
past_width v w none h =
    let big : 2 ^ number_bits ≤ v = too_large v none in
    let low : 2 ^ w ≤ 2 ^ number_bits = pow_mono h in
    le-ltb v (2 ^ w) (omega arith)

pub in_bits_none : (v : ℕ) → 2 ^ number_bits ≤ v → in_bits v ≡ None
in_bits_none v h = grind (arith, nat_tests)

pub in_bits_some : (v : ℕ) → v < 2 ^ number_bits → in_bits v ≡ Some v
in_bits_some v h = grind (arith, nat_tests)

-- ---- Few digits have few bits.

digit_small : (c : ℕ) → digit_value c ≤ 36
digit_small c = grind (arith, nat_tests)

one_more : (base v k d : ℕ) → base ≤ 16 → d ≤ 36 → v < 2 ^ k → v * base + d < 2 ^ (k + 6)
one_more base v k d h few low =
    let most : v * base ≤ v * 16 = mul-le-mul_left v h in
    let wide : 2 ^ (k + 6) ≡ 2 ^ k * 64 = pow-add 2 k 6 in
    omega (arith, most, wide, low, few)

digits_small : (base v k : ℕ) (ds : List ℕ) → base ≤ 16 → v < 2 ^ k → digits_value_after base v ds < 2 ^ (k + 6 * length ds)
digits_small base v k [] h low = subst (λ (n : ℕ). v < 2 ^ n) (omega arith) low
digits_small base v k (d ∷ ds) h low =
    let rest = digits_small base (v * base + digit_value d) (k + 6) ds h (one_more base v k (digit_value d) h (digit_small d) low) in
    subst (λ (n : ℕ). digits_value_after base (v * base + digit_value d) ds < 2 ^ n) (omega arith) rest

pub value_small : (base : ℕ) (digits : List ℕ) → base ≤ 16 → length digits ≤ 20 → nat_lt (value base digits) (2 ^ number_bits) ≡ true
unfolding value
value_small base digits h few =
    let found = filter counts digits in
    let low : length found ≤ length digits = omega (arith, length-filter counts digits, count_by-le-length counts digits) in
    let bits : 0 + 6 * length found ≤ number_bits = omega (arith, low, few) in
    let wide : 2 ^ (0 + 6 * length found) ≤ 2 ^ number_bits = pow_mono bits in
    lt-ltb (value base digits) (2 ^ number_bits) (omega (arith, digits_small base 0 0 found h (omega arith), wide))
