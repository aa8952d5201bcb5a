-- A start is the least number, and a power the least power.
use Rattle.std.proofs.Common.{◌≡◌, ℕ, zero, suc, ◌*◌, ◌%◌, ◌^◌, ◌<◌, ◌≤◌, Bool, true, false, [], ◌∷◌, refl, ap, sym, subst, ◌∙◌, arith, ◌⊎◌, inl, inr, Option, Some, None}
use Rattle.std.specs.Prelude.{max, nat_le}
use Rattle.std.specs.Int.{IsPowerOfTwo}
use Rattle.std.proofs.Math.Nat.{mul_assoc, mul_comm, pow-suc}
use Rattle.std.proofs.lemmas.Bool.{cases_lt, le-leb, lt-leb}
use Rattle.std.proofs.lemmas.List.Elements.{All-cons, All-nil}
use Rattle.rdl_elab.specs.declared.layout.Mode.{Mode}
use Rattle.rdl_elab.specs.declared.layout.Placement.{Placement}
use Rattle.rdl_elab.specs.Rounding.{IsNext, IsLeastPower, next_multiple, first_power, power_up}
use Rattle.rdl_elab.specs.Start.{mode_alignment, start_of, start_by, aligned_start, alignments, alignments_by, IsMultiple, IsLeast}
use Rattle.rdl_elab.proofs.Rounding.{next_multiple-is, zero_mod}
use Rattle.rdl_elab.proofs.CappedNumbers.{power_up-ge}

of_one : (k : ℕ) → k % 1 ≡ 0
of_one k = zero_mod 1 k (k, omega arith)

least_of_one : (e a n : ℕ) → IsNext e (max 1 a) 1 n → IsLeast e (a ∷ []) n
least_of_one e a n t =
    record {
      above = t.above;
      multiple = All-cons (IsMultiple n) a [] t.first (All-nil (IsMultiple n));
      least = λ k h g. t.least k h (g 0 0 (omega arith)) (of_one k);
    }

least_of_two : (e a b n : ℕ) → IsNext e (max 1 a) (max 1 b) n → IsLeast e (a ∷ b ∷ []) n
least_of_two e a b n t =
    record {
      above = t.above;
      multiple = All-cons (IsMultiple n) a (b ∷ []) t.first (All-cons (IsMultiple n) b [] t.second (All-nil (IsMultiple n)));
      least = λ k h g. t.least k h (g 0 0 (omega arith)) (g 1 0 (omega arith));
    }

next_is : (e a b : ℕ) → IsNext e (max 1 a) (max 1 b) (next_multiple e (max 1 a) (max 1 b))
next_is e a b = next_multiple-is e (max 1 a) (max 1 b) (omega arith) (omega arith)

least_aligned : (around : Option ℕ) (m : Mode) (end : ℕ) (p : Placement) (o : Option ℕ) → IsLeast end (alignments_by around m p o) (aligned_start around m end p o)
least_aligned around m end p (Some a) = least_of_one end a (next_multiple end (max 1 a) 1) (next_is end a 1)
least_aligned None m end p None = least_of_one end (mode_alignment m p) (next_multiple end (max 1 (mode_alignment m p)) 1) (next_is end (mode_alignment m p) 1)
least_aligned (Some b) m end p None = least_of_two end (mode_alignment m p) b (next_multiple end (max 1 (mode_alignment m p)) (max 1 b)) (next_is end (mode_alignment m p) b)

pub start-least : (around : Option ℕ) (m : Mode) (end : ℕ) (p : Placement) → p.address ≡ None → IsLeast end (alignments around m p) (start_of around m end p)
start-least around m end p h = subst (λ o. IsLeast end (alignments around m p) (start_by around m end p o)) (sym h) (least_aligned around m end p p.align)

step : (k p : ℕ) → 2 ^ suc k * p ≡ 2 ^ k * (2 * p)
step k p = ap (λ z. z * p) (pow-suc 2 k) ∙ mul_assoc (2 ^ k) 2 p

-- each number that the search answers is a power of two times where it began
first_power-power : (f j n : ℕ) → IsPowerOfTwo (first_power f (2 ^ j) n)
first_power-power zero j n = (j, refl)
first_power-power (suc f) j n = by_test (nat_le n (2 ^ j)) (subst (λ q. IsPowerOfTwo (first_power f q n)) (next j) (first_power-power f (suc j) n))
  where
    next : (j : ℕ) → 2 ^ suc j ≡ 2 * 2 ^ j
    next j = pow-suc 2 j ∙ mul_comm (2 ^ j) 2

    by_test : (t : Bool) → IsPowerOfTwo (first_power f (2 * 2 ^ j) n) → IsPowerOfTwo (elim t [ true ↦ 2 ^ j | false ↦ first_power f (2 * 2 ^ j) n ])
    by_test true ih = (j, refl)
    by_test false ih = ih

times_power : (k p : ℕ) → p ≤ 2 ^ k * p
times_power zero p = omega arith
times_power (suc k) p = let ih : 2 * p ≤ 2 ^ k * (2 * p) = times_power k (2 * p) in let e : 2 ^ suc k * p ≡ 2 ^ k * (2 * p) = step k p in omega arith

-- it answers no more than any power of two times where it began that is n or more
first_power-least : (f p n k : ℕ) → 0 < p → n ≤ 2 ^ k * p → first_power f p n ≤ 2 ^ k * p
first_power-least zero p n k pos h = times_power k p
first_power-least (suc f) p n k pos h = by_order (λ i g. first_power-least f (2 * p) n i (omega arith) g) (cases_lt p n)
  where
    later : (k : ℕ) → p < n → n ≤ 2 ^ k * p → ((i : ℕ) → n ≤ 2 ^ i * (2 * p) → first_power f (2 * p) n ≤ 2 ^ i * (2 * p)) → first_power f (2 * p) n ≤ 2 ^ k * p
    later zero l g ih = absurd (omega arith)
    later (suc i) l g ih = subst (λ x. first_power f (2 * p) n ≤ x) (sym (step i p)) (ih i (subst (λ x. n ≤ x) (step i p) g))

    by_order : ((i : ℕ) → n ≤ 2 ^ i * (2 * p) → first_power f (2 * p) n ≤ 2 ^ i * (2 * p)) → ((p < n) ⊎ (n ≤ p)) → first_power (suc f) p n ≤ 2 ^ k * p
    by_order ih (inl l) =
        subst (λ t. elim t [ true ↦ p | false ↦ first_power f (2 * p) n ] ≤ 2 ^ k * p) (sym (lt-leb n p l)) (later k l h ih)
    by_order ih (inr l) = subst (λ t. elim t [ true ↦ p | false ↦ first_power f (2 * p) n ] ≤ 2 ^ k * p) (sym (le-leb n p l)) (times_power k p)

pub power-least : (n : ℕ) → IsLeastPower n (power_up n)
power-least n =
    record {
      power = first_power-power n 0 n;
      above = power_up-ge n;
      least = λ k h. subst (λ x. power_up n ≤ x) (one (2 ^ k)) (first_power-least n 1 n k (omega arith) (subst (λ x. n ≤ x) (sym (one (2 ^ k))) h));
    }
  where
    one : (x : ℕ) → x * 1 ≡ x
    one x = omega arith
