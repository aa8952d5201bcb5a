-- Which bits a set of bits has, by how it is made.
use Rattle.std.proofs.Common.{◌≡◌, ℕ, ◌+◌, ◌*◌, ◌%◌, ◌^◌, ◌<◌, min, max, zero, suc, Bool, true, false, not, ◌&&◌, ◌||◌, ◌⊎◌, inl, inr, bit_and, bit_or, bit_xor, refl, sym, ◌∙◌, ap, zero-mul, one-mul, pow_pos, eq-eqb, ne_eqb, arith}
use Rattle.std.specs.Int.{bit_at}
use Rattle.std.proofs.lemmas.Bool.{false≢true, or_right}
use Rattle.std.proofs.lemmas.Nat.Bits.{and_pow, bit_at-zero, bit_at_or, bit_at_and, bit_at_xor, bit_at-lt, bit_at-pow_same}
use Rattle.rdl_seen.specs.Names.{meet}

-- the bits of the first that aren't in the second
abbrev pub less : ℕ → ℕ → ℕ
less a b = bit_xor a (bit_and a b)

zero_or_one : (x : ℕ) → x < 2 → (x ≡ 0) ⊎ (x ≡ 1)
zero_or_one zero below = inl refl
zero_or_one (suc zero) below = inr refl
zero_or_one (suc (suc x)) below = absurd (omega arith)

pub bit_cases : (a k : ℕ) → (bit_at a k ≡ 0) ⊎ (bit_at a k ≡ 1)
bit_cases a k = zero_or_one (bit_at a k) (bit_at-lt a k)

pub lacks_from : (a k : ℕ) → bit_at a k ≡ 0 → meet a (2 ^ k) ≡ false
lacks_from a k e =
    let none : bit_and a (2 ^ k) ≡ 0 = and_pow a k ∙ (ap (λ x. x * 2 ^ k) e ∙ zero-mul (2 ^ k)) in
    ap (λ (t : Bool). not t) (eq-eqb (bit_and a (2 ^ k)) 0 none)

pub has_from : (a k : ℕ) → bit_at a k ≡ 1 → meet a (2 ^ k) ≡ true
has_from a k e =
    let some : bit_and a (2 ^ k) ≡ 2 ^ k = and_pow a k ∙ (ap (λ x. x * 2 ^ k) e ∙ one-mul (2 ^ k)) in
    let over : 0 < 2 ^ k = pow_pos k in
    let other : bit_and a (2 ^ k) ≡ 0 → ⊥ = λ none. absurd (omega arith) in
    ap (λ (t : Bool). not t) (ne_eqb (bit_and a (2 ^ k)) 0 other)

pub meet_or : (a b k : ℕ) → meet (bit_or a b) (2 ^ k) ≡ (meet a (2 ^ k) || meet b (2 ^ k))
meet_or a b k =
    elim (bit_cases a k) [
      | inl x ↦ elim (bit_cases b k) [
        | inl y ↦ lacks_from (bit_or a b) k (bit_at_or a b k ∙ (λ i. max (x i) (y i))) ∙ sym (λ i. lacks_from a k x i || lacks_from b k y i)
        | inr y ↦ has_from (bit_or a b) k (bit_at_or a b k ∙ (λ i. max (x i) (y i))) ∙ sym (λ i. lacks_from a k x i || has_from b k y i)
      ]
      | inr x ↦ elim (bit_cases b k) [
        | inl y ↦ has_from (bit_or a b) k (bit_at_or a b k ∙ (λ i. max (x i) (y i))) ∙ sym (λ i. has_from a k x i || lacks_from b k y i)
        | inr y ↦ has_from (bit_or a b) k (bit_at_or a b k ∙ (λ i. max (x i) (y i))) ∙ sym (λ i. has_from a k x i || has_from b k y i)
      ]
    ]

bit_at_less : (a b k : ℕ) → bit_at (less a b) k ≡ (bit_at a k + min (bit_at a k) (bit_at b k)) % 2
bit_at_less a b k = bit_at_xor a (bit_and a b) k ∙ ap (λ n. (bit_at a k + n) % 2) (bit_at_and a b k)

pub meet_less : (a b k : ℕ) → meet (less a b) (2 ^ k) ≡ (meet a (2 ^ k) && not (meet b (2 ^ k)))
meet_less a b k =
    elim (bit_cases a k) [
      | inl x ↦ elim (bit_cases b k) [
        | inl y ↦ lacks_from (less a b) k (bit_at_less a b k ∙ (λ i. (x i + min (x i) (y i)) % 2)) ∙ sym (λ i. lacks_from a k x i && not (lacks_from b k y i))
        | inr y ↦ lacks_from (less a b) k (bit_at_less a b k ∙ (λ i. (x i + min (x i) (y i)) % 2)) ∙ sym (λ i. lacks_from a k x i && not (has_from b k y i))
      ]
      | inr x ↦ elim (bit_cases b k) [
        | inl y ↦ has_from (less a b) k (bit_at_less a b k ∙ (λ i. (x i + min (x i) (y i)) % 2)) ∙ sym (λ i. has_from a k x i && not (lacks_from b k y i))
        | inr y ↦ lacks_from (less a b) k (bit_at_less a b k ∙ (λ i. (x i + min (x i) (y i)) % 2)) ∙ sym (λ i. has_from a k x i && not (has_from b k y i))
      ]
    ]

pub lacks_none : (k : ℕ) → meet 0 (2 ^ k) ≡ false
lacks_none k = lacks_from 0 k (bit_at-zero k)

pub has_own : (k : ℕ) → meet (2 ^ k) (2 ^ k) ≡ true
has_own k = has_from (2 ^ k) k (bit_at-pow_same k)

pub has_first : (a b k : ℕ) → meet a (2 ^ k) ≡ true → meet (bit_or a b) (2 ^ k) ≡ true
has_first a b k has = meet_or a b k ∙ (λ i. has i || meet b (2 ^ k))

pub has_second : (a b k : ℕ) → meet b (2 ^ k) ≡ true → meet (bit_or a b) (2 ^ k) ≡ true
has_second a b k has = meet_or a b k ∙ or_right (meet a (2 ^ k)) (meet b (2 ^ k)) has

pub lacks_both : (a b k : ℕ) → meet a (2 ^ k) ≡ false → meet b (2 ^ k) ≡ false → meet (bit_or a b) (2 ^ k) ≡ false
lacks_both a b k x y = meet_or a b k ∙ (λ i. x i || y i)

pub has_less : (a b k : ℕ) → meet a (2 ^ k) ≡ true → meet b (2 ^ k) ≡ false → meet (less a b) (2 ^ k) ≡ true
has_less a b k x y = meet_less a b k ∙ (λ i. x i && not (y i))

-- a bit of the first that isn't in the second
pub record IsLeft (a b k : ℕ) : Type 0 where
  pub has : meet a (2 ^ k) ≡ true
  pub lacks : meet b (2 ^ k) ≡ false

left_by : (x y : Bool) → (x && not y) ≡ true → (x ≡ true) × (y ≡ false)
left_by true false e = (refl, refl)
left_by true true e = absurd (false≢true e)
left_by false y e = absurd (false≢true e)

pub less_parts : (a b k : ℕ) → meet (less a b) (2 ^ k) ≡ true → IsLeft a b k
less_parts a b k has =
    let parts = left_by (meet a (2 ^ k)) (meet b (2 ^ k)) (sym (meet_less a b k) ∙ has) in
    record { has = parts.0; lacks = parts.1 }
