-- A number over the limit is kept as the limit, and this changes nothing else.
use Rattle.std.proofs.Common.{◌≡◌, ℕ, zero, suc, ◌+◌, ◌*◌, ◌/◌, ◌^◌, ◌<◌, ◌≤◌, ◌-◌, Bool, true, false, refl, ap, sym, subst, ◌∙◌, arith, ◌⊎◌, inl, inr, Option, Some, None}
use Rattle.std.specs.Prelude.{max, min, unwrap_or, IfSome}
use Rattle.std.specs.Int.{IsPowerOfTwo}
use Rattle.std.proofs.Math.Nat.{mul_assoc, pow-suc}
use Rattle.std.proofs.lemmas.Nat.{pow_pos, pow_below}
use Rattle.std.proofs.lemmas.Bool.{cases_lt, le-leb, lt-leb}
use Rattle.rdl_elab.specs.declared.layout.Mode.{Mode}
use Rattle.rdl_elab.specs.declared.layout.Placement.{Placement}
use Rattle.rdl_elab.specs.Start.{full_alignment, mode_alignment, start_of, start_by, aligned_start}
use Rattle.rdl_elab.specs.Rounding.{next_multiple, first_power, power_up}
use Rattle.rdl_elab.specs.Capped.{capped}
use Rattle.rdl_elab.proofs.Rounding.{next_multiple-is, next_zero, next_far, step_first}

-- powers of two
below_power : (k : ℕ) → k < 2 ^ k
below_power zero = omega arith
below_power (suc k) = let e : 2 ^ suc k ≡ 2 ^ k * 2 = pow-suc 2 k in let h = below_power k in omega arith

-- the powers from p on, of which the d-th is the first that is n or more
first_power-is : (d f p n : ℕ) → d ≤ f → n ≤ 2 ^ d * p → ((j : ℕ) → j < d → 2 ^ j * p < n) → first_power f p n ≡ 2 ^ d * p
first_power-is zero zero p n h g low = omega arith
first_power-is zero (suc f) p n h g low = ap (λ t. elim t [ true ↦ p | false ↦ first_power f (2 * p) n ]) (le-leb n p (omega arith)) ∙ one p
  where
    one : (p : ℕ) → p ≡ 2 ^ 0 * p
    one p = omega arith
first_power-is (suc d) zero p n h g low = absurd (omega arith)
first_power-is (suc d) (suc f) p n h g low =
    ap (λ t. elim t [ true ↦ p | false ↦ first_power f (2 * p) n ]) (lt-leb n p (omega (arith, low 0 (omega arith))))
    ∙ first_power-is d f (2 * p) n (omega arith) (subst (λ x. n ≤ x) (step d p) g) (λ j k. subst (λ x. x < n) (step j p) (low (suc j) (omega arith)))
    ∙ sym (step d p)
  where
    step : (d p : ℕ) → 2 ^ suc d * p ≡ 2 ^ d * (2 * p)
    step d p = ap (λ z. z * p) (pow-suc 2 d) ∙ mul_assoc (2 ^ d) 2 p

pub power_up-is : (n k : ℕ) → n ≤ 2 ^ k → 2 ^ k / 2 < max 1 n → power_up n ≡ 2 ^ k
power_up-is n zero h g = first_power-is 0 n 1 n (omega arith) (omega arith) (λ j l. absurd (omega arith)) ∙ one (2 ^ 0)
  where
    one : (x : ℕ) → x * 1 ≡ x
    one x = omega arith
power_up-is n (suc k) h g =
    let e : 2 ^ suc k ≡ 2 ^ k * 2 = pow-suc 2 k in
    let pos : 0 < 2 ^ k = pow_pos k in
    let low : 2 ^ k < n = omega arith in
    let small : k < 2 ^ k = below_power k in
    first_power-is (suc k) n 1 n (omega arith) (omega arith) (λ j l. under j k l low) ∙ one (2 ^ suc k)
  where
    one : (x : ℕ) → x * 1 ≡ x
    one x = omega arith

    under : (j k : ℕ) → j < suc k → 2 ^ k < n → 2 ^ j * 1 < n
    under j k l low = by_order (cases_lt j k)
      where
        by_order : ((j < k) ⊎ (k ≤ j)) → 2 ^ j * 1 < n
        by_order (inl m) = let z : 2 ^ j < 2 ^ k = pow_below j k m in omega arith
        by_order (inr m) = let z : 2 ^ j ≡ 2 ^ k = ap (λ i. 2 ^ i) (same j k l m) in omega arith
          where
            same : (j k : ℕ) → j < suc k → k ≤ j → j ≡ k
            same j k l m = omega arith

pub power_up-next : (n p : ℕ) → IsPowerOfTwo p → n ≤ p → p / 2 < max 1 n → power_up n ≡ p
power_up-next n p power h g = power_up-is n power.0 (subst (λ x. n ≤ x) power.1 h) (subst (λ x. x / 2 < max 1 n) power.1 g) ∙ sym power.1

first_power-ge : (f p n : ℕ) → n ≤ 2 ^ f * p → n ≤ first_power f p n
first_power-ge zero p n h = omega (arith, one p)
  where
    one : (p : ℕ) → 2 ^ 0 * p ≡ p
    one p = omega arith
first_power-ge (suc f) p n h = by_test (first_power-ge f (2 * p) n (subst (λ x. n ≤ x) (step f p) h)) (cases_lt p n)
  where
    step : (d p : ℕ) → 2 ^ suc d * p ≡ 2 ^ d * (2 * p)
    step d p = ap (λ z. z * p) (pow-suc 2 d) ∙ mul_assoc (2 ^ d) 2 p

    by_test : n ≤ first_power f (2 * p) n → ((p < n) ⊎ (n ≤ p)) → n ≤ first_power (suc f) p n
    by_test ih (inl l) = subst (λ t. n ≤ elim t [ true ↦ p | false ↦ first_power f (2 * p) n ]) (sym (lt-leb n p l)) ih
    by_test ih (inr l) = subst (λ t. n ≤ elim t [ true ↦ p | false ↦ first_power f (2 * p) n ]) (sym (le-leb n p l)) l

pub power_up-ge : (n : ℕ) → n ≤ power_up n
power_up-ge n = first_power-ge n 1 n (omega (arith, below_power n))

-- two numbers that are kept as one
abbrev pub Alike : ℕ → ℕ → Type 0
Alike x y = capped x ≡ capped y

pub over : (x y : ℕ) → 2 ^ 40 + 1 ≤ x → 2 ^ 40 + 1 ≤ y → Alike x y
over x y h g = omega arith

pub alike_cases : (x y : ℕ) → Alike x y → (x ≡ y) ⊎ ((2 ^ 40 + 1 ≤ x) × (2 ^ 40 + 1 ≤ y))
alike_cases x y h = by_order (cases_lt x (2 ^ 40 + 1))
  where
    by_order : ((x < 2 ^ 40 + 1) ⊎ (2 ^ 40 + 1 ≤ x)) → (x ≡ y) ⊎ ((2 ^ 40 + 1 ≤ x) × (2 ^ 40 + 1 ≤ y))
    by_order (inl l) = inl (omega arith)
    by_order (inr l) = inr (l, omega arith)

next_above : (e a b : ℕ) → 0 < a → 0 < b → e ≤ next_multiple e a b
next_above e a b h g = (next_multiple-is e a b h g).above

next_above_step : (e a b : ℕ) → 0 < e → 0 < a → 0 < b → a ≤ next_multiple e a b
next_above_step e a b p h g = next_far e a b a h g p (step_first a b h)

pub next_alike : (e f a c b : ℕ) → 0 < a → 0 < c → 0 < b → Alike e f → Alike a c → Alike (next_multiple e a b) (next_multiple f c b)
next_alike e f a c b h g k x y = by_cases (alike_cases e f x) (alike_cases a c y)
  where
    by_cases : ((e ≡ f) ⊎ ((2 ^ 40 + 1 ≤ e) × (2 ^ 40 + 1 ≤ f))) → ((a ≡ c) ⊎ ((2 ^ 40 + 1 ≤ a) × (2 ^ 40 + 1 ≤ c))) → Alike (next_multiple e a b) (next_multiple f c b)
    by_cases (inl p) (inl q) = ap capped (ap (λ z. next_multiple z a b) p ∙ ap (λ z. next_multiple f z b) q)
    by_cases (inr p) q = over (next_multiple e a b) (next_multiple f c b) (omega (arith, p.0, next_above e a b h k)) (omega (arith, p.1, next_above f c b g k))
    by_cases (inl p) (inr q) = by_zero e f p
      where
        by_zero : (m n : ℕ) → m ≡ n → Alike (next_multiple m a b) (next_multiple n c b)
        by_zero zero n p = ap capped (next_zero a b h k ∙ sym (next_zero c b g k) ∙ ap (λ z. next_multiple z c b) p)
        by_zero (suc m) n p = over (next_multiple (suc m) a b) (next_multiple n c b) (omega (arith, q.0, next_above_step (suc m) a b (omega arith) h k)) (omega (arith, q.1, next_above_step n c b (omega arith) g k))

pub max-one : (a : ℕ) → 0 < a → max 1 a ≡ a
max-one a h = omega arith

pub start_is : (e x a all b : ℕ) → x ≡ capped a → 0 < all → max 1 x ≡ b → capped (next_multiple e b all) ≡ capped (next_multiple e (max 1 a) (max 1 all))
start_is e x a all b h g k =
    ap (λ z. capped (next_multiple e z all)) (sym k) ∙ next_alike e e (max 1 x) (max 1 a) all (omega arith) (omega arith) g refl (omega arith) ∙ ap (λ z. capped (next_multiple e (max 1 a) z)) (sym (max-one all g))

pub start_none : (all : Option ℕ) (m : Mode) (e : ℕ) (p : Placement) (b x w r : ℕ) → p.address ≡ None → p.align ≡ None → b ≡ unwrap_or all 1 → 0 < b → x ≡ capped (mode_alignment m p) → w ≡ max x 1
    → r ≡ capped (next_multiple e w b) → r ≡ capped (start_of all m e p)
start_none all m e p b x w r none alone same pos h k g =
    g ∙ start_is e x (mode_alignment m p) b w h pos (turn x w k) ∙ ap (λ z. capped (next_multiple e (max 1 (mode_alignment m p)) (max 1 z))) same
    ∙ ap (λ o. capped (aligned_start all m e p o)) (sym alone) ∙ ap (λ o. capped (start_by all m e p o)) (sym none)
  where
    turn : (x w : ℕ) → w ≡ max x 1 → max 1 x ≡ w
    turn x w k = omega arith

-- the alignment of the component around, or 1
pub around_power : (all : Option ℕ) (b : ℕ) → IfSome all IsPowerOfTwo → b ≡ unwrap_or all 1 → IsPowerOfTwo b
around_power None b h e = (0, e)
around_power (Some a) b h e = (h.0, e ∙ h.1)

pub power_positive : (b : ℕ) → IsPowerOfTwo b → 0 < b
power_positive b h = let p : 0 < 2 ^ h.0 = pow_pos h.0 in let e : b ≡ 2 ^ h.0 = h.1 in omega arith

-- an instance with `%=`
pub start_own : (e a w : ℕ) → w ≡ min (max a 1) (2 ^ 40 + 1) → capped (next_multiple e w 1) ≡ capped (next_multiple e (max 1 a) 1)
start_own e a w h = next_alike e e w (max 1 a) 1 (omega arith) (omega arith) (omega arith) refl (omega arith)

-- an array that is too large is aligned too far
pub power_capped : (n m p : ℕ) → m ≡ capped n → p ≡ power_up m → capped p ≡ capped (power_up n)
power_capped n m p h g = by_order (cases_lt n (2 ^ 40 + 1))
  where
    by_order : ((n < 2 ^ 40 + 1) ⊎ (2 ^ 40 + 1 ≤ n)) → capped p ≡ capped (power_up n)
    by_order (inl l) = let e : m ≡ n = omega arith in ap capped (g ∙ ap power_up e)
    by_order (inr l) = let e : m ≤ power_up m = power_up-ge m in over p (power_up n) (omega arith) (omega (arith, power_up-ge n))

pub full_array : (is_array : Bool) (elements size w m p r : ℕ) → is_array ≡ true → w ≡ min (size * elements) (2 ^ 128 - 1) → m ≡ min w (2 ^ 40 + 1) → IsPowerOfTwo p → m ≤ p → p / 2 < max 1 m
    → r ≡ min p (2 ^ 40 + 1) → r ≡ capped (full_alignment is_array elements size)
full_array is_array elements size w m p r is_it f g power h k e =
    e ∙ power_capped (size * elements) m p (within (size * elements) f) (sym (power_up-next m p power h k)) ∙ ap (λ b. capped (full_alignment b elements size)) (sym is_it)
  where
    within : (n : ℕ) → w ≡ min n (2 ^ 128 - 1) → m ≡ capped n
    within n f = omega arith

pub start_some : (all : Option ℕ) (m : Mode) (e : ℕ) (p : Placement) (a x w r : ℕ) → p.address ≡ None → p.align ≡ Some a → x ≡ max a 1 → w ≡ min x (2 ^ 40 + 1) → r ≡ capped (next_multiple e w 1)
    → r ≡ capped (start_of all m e p)
start_some all m e p a x w r none own h g k =
    k ∙ start_own e a w (omega arith) ∙ ap (λ o. capped (aligned_start all m e p o)) (sym own) ∙ ap (λ o. capped (start_by all m e p o)) (sym none)

pub ruleset caps = (power_up-next, max-one)
