-- The least multiple of two numbers: found, alone, and reached by a division.
use Rattle.std.proofs.Common.{◌≡◌, ℕ, zero, suc, ◌+◌, ◌-◌, ◌*◌, ◌/◌, ◌%◌, ◌^◌, ◌<◌, ◌≤◌, Bool, true, false, refl, ap, sym, subst, ◌∙◌, arith, ◌⊎◌, inl, inr}
use Rattle.std.specs.Prelude.{◌&&◌, nat_eq, min}
use Rattle.std.proofs.Math.Nat.{add-mul, mul-add, mul_assoc, mul_comm, pow-suc, suc-mul, zero-mul, dvd-mul_left}
use Rattle.std.proofs.lemmas.Nat.{div-add-mod', mod_below, mul-le}
use Rattle.std.proofs.lemmas.Nat.Gcd.{mod-eq-zero_of_dvd}
use Rattle.std.proofs.lemmas.Bool.{eqb-true, eq-eqb, cases_lt}
use Rattle.std.specs.Int.{IsPowerOfTwo}
use Rattle.rdl_elab.specs.Rounding.{IsNext, IsStep, first_multiple, next_multiple}
use Rattle.rdl_elab.specs.Capped.{capped}

abbrev pub Times : ℕ → ℕ → Type 0
Times s n = (q : ℕ) × (n ≡ q * s)

pub times : (s n : ℕ) → n % s ≡ 0 → Times s n
times s n h = let e : n / s * s + n % s ≡ n = div-add-mod' n s in (n / s, omega arith)

pub zero_mod : (s n : ℕ) → Times s n → n % s ≡ 0
zero_mod s n t = ap (λ m. m % s) t.1 ∙ mod-eq-zero_of_dvd s (dvd-mul_left s t.0)

apart : false ≡ true → ⊥
apart e = cc

both : (x y : Bool) → (x && y) ≡ true → (x ≡ true) × (y ≡ true)
both true true e = (refl, refl)
both true false e = absurd (apart e)
both false y e = absurd (apart e)

both-true : (a b : ℕ) → (nat_eq a 0 && nat_eq b 0) ≡ true → (a ≡ 0) × (b ≡ 0)
both-true a b e = (eqb-true a 0 (both (nat_eq a 0) (nat_eq b 0) e).0, eqb-true b 0 (both (nat_eq a 0) (nat_eq b 0) e).1)

both-false : (a b : ℕ) → (nat_eq a 0 && nat_eq b 0) ≡ false → a ≡ 0 → b ≡ 0 → ⊥
both-false a b e h g = apart (sym e ∙ ap (λ z. z && nat_eq b 0) (eq-eqb a 0 h) ∙ eq-eqb b 0 g)

pub first_multiple-next : (f e a b m : ℕ) → e ≤ m → m < e + f → m % a ≡ 0 → m % b ≡ 0 → IsNext e a b (first_multiple f e a b)
first_multiple-next zero e a b m h g p q = absurd (omega arith)
first_multiple-next (suc f) e a b m h g p q = by_test (λ k. first_multiple-next f (suc e) a b m k) (nat_eq (e % a) 0 && nat_eq (e % b) 0) refl
  where
    by_test : (suc e ≤ m → m < suc e + f → m % a ≡ 0 → m % b ≡ 0 → IsNext (suc e) a b (first_multiple f (suc e) a b)) → (t : Bool) → (nat_eq (e % a) 0 && nat_eq (e % b) 0) ≡ t
        → IsNext e a b (elim t [ true ↦ e | false ↦ first_multiple f (suc e) a b ])
    by_test ih true t = record { above = omega arith; first = (both-true (e % a) (e % b) t).0; second = (both-true (e % a) (e % b) t).1; least = λ n k _ _. k }
    by_test ih false t =
        let later : (n : ℕ) → e ≤ n → n % a ≡ 0 → n % b ≡ 0 → suc e ≤ n = (λ n k u v. past n k u v (both-false (e % a) (e % b) t)) in
        let r = ih (later m h p q) (omega arith) p q in
        record { above = omega (arith, r.above); first = r.first; second = r.second; least = λ n k u v. r.least n (later n k u v) u v }
      where
        past : (n : ℕ) → e ≤ n → n % a ≡ 0 → n % b ≡ 0 → (e % a ≡ 0 → e % b ≡ 0 → ⊥) → suc e ≤ n
        past n k u v bad = not_same n k (λ s. bad (ap (λ z. z % a) s ∙ u) (ap (λ z. z % b) s ∙ v))
          where
            not_same : (n : ℕ) → e ≤ n → (e ≡ n → ⊥) → suc e ≤ n
            not_same n k bad = omega arith

pub next_same : (e a b n m : ℕ) → IsNext e a b n → IsNext e a b m → n ≡ m
next_same e a b n m p q = omega (arith, p.least m q.above q.first q.second, q.least n p.above p.first p.second)

-- a multiple of a step at or above e, by division
abbrev pub up : ℕ → ℕ → ℕ
up e s = (e + (s - 1)) / s * s

up-least : (e s : ℕ) → 0 < s → (e ≤ up e s) × (up e s < e + s)
up-least e s h =
    let d : (e + (s - 1)) / s * s + (e + (s - 1)) % s ≡ e + (s - 1) = div-add-mod' (e + (s - 1)) s in
    let r : (e + (s - 1)) % s < s = mod_below (e + (s - 1)) s h in
    (omega arith, omega arith)

product_pos : (a b : ℕ) → 0 < a → 0 < b → 0 < a * b
product_pos zero b h g = absurd (omega arith)
product_pos (suc a) zero h g = absurd (omega arith)
product_pos (suc a) (suc b) h g = let e : suc a * suc b ≡ suc a * b + suc a = mul-suc (suc a) b in omega arith
  where
    mul-suc : (n m : ℕ) → n * suc m ≡ n * m + n
    mul-suc n m = omega arith

pub next_multiple-is : (e a b : ℕ) → 0 < a → 0 < b → IsNext e a b (next_multiple e a b)
next_multiple-is e a b h g =
    let s = a * b in
    let near = up-least e s (product_pos a b h g) in
    first_multiple-next s e a b (up e s) near.0 near.1
    (zero_mod a (up e s) ((e + (s - 1)) / s * b, again ((e + (s - 1)) / s)))
    (zero_mod b (up e s) ((e + (s - 1)) / s * a, sym (mul_assoc ((e + (s - 1)) / s) a b)))
  where
    again : (q : ℕ) → q * (a * b) ≡ q * b * a
    again q = ap (λ z. q * z) (mul_comm a b) ∙ sym (mul_assoc q b a)

-- an odd number of times a number is a multiple of a power of two only where the number itself is
odd_part : (k q s c : ℕ) → (q + q + 1) * s ≡ c * 2 ^ k → Times (2 ^ k) s
odd_part zero q s c e = (s, omega (arith, pow-zero))
  where
    pow-zero : 2 ^ 0 ≡ 1
    pow-zero = refl
odd_part (suc k) q s c e =
    let p : ℕ = 2 ^ k in
    let t : ℕ = c * p - q * s in
    let spread : (q + q + 1) * s ≡ q * s + q * s + s = three q s in
    let double : c * 2 ^ suc k ≡ c * p + c * p = twice c k in
    let half : s ≡ t + t = omega arith in
    let split : (q + q + 1) * (t + t) ≡ (q + q + 1) * t + (q + q + 1) * t = mul-add (q + q + 1) t t in
    let again : (q + q + 1) * (t + t) ≡ (q + q + 1) * s = ap (λ z. (q + q + 1) * z) (sym half) in
    let inner : (q + q + 1) * t ≡ c * p = omega arith in
    let d = odd_part k q t c inner in
    let back : d.0 * 2 ^ suc k ≡ d.0 * p + d.0 * p = twice d.0 k in
    let part : t ≡ d.0 * p = d.1 in
    (d.0, omega arith)
  where
    three : (q s : ℕ) → (q + q + 1) * s ≡ q * s + q * s + s
    three q s = add-mul (q + q) 1 s ∙ ap (λ z. z + 1 * s) (add-mul q q s) ∙ one (q * s + q * s) s
      where
        one : (x s : ℕ) → x + 1 * s ≡ x + s
        one x s = omega arith

    twice : (c k : ℕ) → c * 2 ^ suc k ≡ c * 2 ^ k + c * 2 ^ k
    twice c k = ap (λ z. c * z) (pow-suc 2 k ∙ two (2 ^ k)) ∙ mul-add c (2 ^ k) (2 ^ k)
      where
        two : (x : ℕ) → x * 2 ≡ x + x
        two x = omega arith

-- each number is twice another, or one more
parity : (n : ℕ) → (m : ℕ) × ((n ≡ m + m) ⊎ (n ≡ m + m + 1))
parity n = (n / 2, halves n (n % 2) (div-add-mod' n 2) (mod_below n 2 (omega arith)))
  where
    halves : (n r : ℕ) → n / 2 * 2 + r ≡ n → r < 2 → (n ≡ n / 2 + n / 2) ⊎ (n ≡ n / 2 + n / 2 + 1)
    halves n zero e h = inl (omega arith)
    halves n (suc zero) e h = inr (omega arith)
    halves n (suc (suc r)) e h = absurd (omega arith)

-- a common multiple of s and of a power of two is one of 2 * s, where s is none of that power
pub doubled : (k s m : ℕ) → (s % 2 ^ k ≡ 0 → ⊥) → m % 2 ^ k ≡ 0 → m % s ≡ 0 → m % (s + s) ≡ 0
doubled k s m no_multiple h g =
    let c = times (2 ^ k) m h in
    let d = times s m g in
    zero_mod (s + s) m (by_parity d.0 (parity d.0) d.1 c)
  where
    by_parity : (q : ℕ) → ((r : ℕ) × ((q ≡ r + r) ⊎ (q ≡ r + r + 1))) → m ≡ q * s → Times (2 ^ k) m → Times (s + s) m
    by_parity q (r, inl e) f c = (r, f ∙ ap (λ z. z * s) e ∙ add-mul r r s ∙ sym (mul-add r s s))
    by_parity q (r, inr e) f c = absurd (no_multiple (zero_mod (2 ^ k) s (odd_part k r s c.0 (ap (λ z. z * s) (sym e) ∙ sym f ∙ c.1))))

pub step_first : (a b : ℕ) → 0 < a → IsStep a b a
step_first a b h = record { positive = h; multiple = zero_mod a a (1, omega arith); common = λ m p q. p }

pub step_double : (a k s : ℕ) → IsStep a (2 ^ k) s → (s % 2 ^ k ≡ 0 → ⊥) → IsStep a (2 ^ k) (s + s)
step_double a k s t no_multiple =
    let c = times a s t.multiple in
    record {
      positive = omega (arith, t.positive);
      multiple = zero_mod a (s + s) (c.0 + c.0, ap (λ z. z + z) c.1 ∙ sym (add-mul c.0 c.0 a));
      common = λ m p q. doubled k s m no_multiple q (t.common m p q);
    }

multiple_trans : (a s n : ℕ) → s % a ≡ 0 → n % s ≡ 0 → n % a ≡ 0
multiple_trans a s n h g =
    let c = times a s h in
    let d = times s n g in
    zero_mod a n (d.0 * c.0, d.1 ∙ ap (λ z. d.0 * z) c.1 ∙ sym (mul_assoc d.0 c.0 a))

-- two multiples of s are s apart
multiples_apart : (s m r : ℕ) → m % s ≡ 0 → r % s ≡ 0 → m < r → m + s ≤ r
multiples_apart s m r h g lt =
    let c = times s m h in
    let d = times s r g in
    gap c.0 d.0 c.1 d.1
  where
    gap : (q p : ℕ) → m ≡ q * s → r ≡ p * s → m + s ≤ r
    gap q p e f = by_order (cases_lt q p)
      where
        by_order : ((q < p) ⊎ (p ≤ q)) → m + s ≤ r
        by_order (inl k) = let z : suc q * s ≤ p * s = mul-le (suc q) s p s k (omega arith) in let y : suc q * s ≡ q * s + s = suc-mul q s in omega arith
        by_order (inr k) = let z : p * s ≤ q * s = mul-le p s q s k (omega arith) in absurd (omega arith)

-- where both are multiples, a multiple of the step that is less than one step above e is the least
pub next_by_step : (e a b s r : ℕ) → 0 < a → 0 < b → IsStep a b s → s % b ≡ 0 → e ≤ r → r % s ≡ 0 → r < e + s → next_multiple e a b ≡ r
next_by_step e a b s r h g t w above mult below =
    next_same e a b (next_multiple e a b) r (next_multiple-is e a b h g) (record {
      above = above;
      first = multiple_trans a s r t.multiple mult;
      second = multiple_trans b s r w mult;
      least = λ m k p q. least m k (t.common m p q);
    })
  where
    least : (m : ℕ) → e ≤ m → m % s ≡ 0 → r ≤ m
    least m k c = by_order (cases_lt m r)
      where
        by_order : ((m < r) ⊎ (r ≤ m)) → r ≤ m
        by_order (inl l) = let z : m + s ≤ r = multiples_apart s m r c mult l in absurd (omega arith)
        by_order (inr l) = l

pub next_far : (e a b s : ℕ) → 0 < a → 0 < b → 0 < e → IsStep a b s → s ≤ next_multiple e a b
next_far e a b s h g pos t =
    let n = next_multiple-is e a b h g in
    let z : 0 + s ≤ next_multiple e a b = multiples_apart s 0 (next_multiple e a b) (zero_mod s 0 (0, sym (zero-mul s))) (t.common (next_multiple e a b) n.first n.second) (omega (arith, n.above)) in
    omega arith

pub next_zero : (a b : ℕ) → 0 < a → 0 < b → next_multiple 0 a b ≡ 0
next_zero a b h g =
    let n = next_multiple-is 0 a b h g in
    omega (arith, n.least 0 (omega arith) (zero_mod a 0 (0, sym (zero-mul a))) (zero_mod b 0 (0, sym (zero-mul b))))

pub step_on : (a b s : ℕ) → IsPowerOfTwo b → IsStep a b s → (s % b ≡ 0 → ⊥) → IsStep a b (s + s)
step_on a b s power t no_multiple =
    subst (λ c. IsStep a c (s + s)) (sym power.1) (step_double a power.0 s (subst (λ c. IsStep a c s) power.1 t) (λ h. no_multiple (ap (λ c. s % c) power.1 ∙ h)))

-- what the code answers
pub round_zero : (e a b : ℕ) → e ≡ 0 → 0 < a → 0 < b → 0 ≡ capped (next_multiple e a b)
round_zero e a b z h g = ap capped (sym (next_zero a b h g)) ∙ ap (λ n. capped (next_multiple n a b)) (sym z)

pub round_far : (e a b s : ℕ) → (e ≡ 0 → ⊥) → 0 < a → 0 < b → IsStep a b s → 2 ^ 40 + 1 ≤ s → 2 ^ 40 + 1 ≡ capped (next_multiple e a b)
round_far e a b s pos h g t far = far_capped (next_multiple e a b) (next_far e a b s h g (positive e pos) t)
  where
    positive : (e : ℕ) → (e ≡ 0 → ⊥) → 0 < e
    positive e pos = omega arith

    far_capped : (n : ℕ) → s ≤ n → 2 ^ 40 + 1 ≡ capped n
    far_capped n k = omega arith

pub round_same : (e a b s : ℕ) → e ≤ 2 ^ 40 + 1 → 0 < a → 0 < b → IsStep a b s → s % b ≡ 0 → e % s ≡ 0 → e ≡ capped (next_multiple e a b)
round_same e a b s small h g t w z =
    let n : next_multiple e a b ≡ e = next_by_step e a b s e h g t w (omega arith) z (omega (arith, t.positive)) in
    let c : e ≡ capped e = within e small in c ∙ ap capped (sym n)
  where
    within : (e : ℕ) → e ≤ 2 ^ 40 + 1 → e ≡ capped e
    within e h = omega arith

pub round_next : (e a b s : ℕ) → 0 < a → 0 < b → IsStep a b s → s % b ≡ 0 → (e % s ≡ 0 → ⊥) → next_multiple e a b ≡ e + (s - e % s)
round_next e a b s h g t w z =
    let d : e / s * s + e % s ≡ e = div-add-mod' e s in
    let r : e % s < s = mod_below e s t.positive in
    let k : suc (e / s) * s ≡ e / s * s + s = suc-mul (e / s) s in
    next_by_step e a b s (e + (s - e % s)) h g t w (omega arith) (zero_mod s (e + (s - e % s)) (suc (e / s), omega arith)) (over (e % s) z r)
  where
    over : (m : ℕ) → (m ≡ 0 → ⊥) → m < s → e + (s - m) < e + s
    over m z r = omega arith

-- one step alone does as well as the two numbers that it is for
pub step_alone : (e w b s r : ℕ) → 0 < w → 0 < b → IsStep w b s → (s < 2 ^ 40 + 1 → s % b ≡ 0) → r ≡ min s (2 ^ 40 + 1) → capped (next_multiple e r 1) ≡ capped (next_multiple e w b)
step_alone e w b s r h g t whole f = by_size (cases_lt s (2 ^ 40 + 1))
  where
    one : 0 < 1
    one = omega arith

    pos : 0 < r
    pos = let p = t.positive in omega arith

    near : s % b ≡ 0 → r ≡ s → next_multiple e r 1 ≡ next_multiple e w b
    near whole same =
        let n = next_multiple-is e r 1 pos one in
        let mult : next_multiple e r 1 % s ≡ 0 = subst (λ z. next_multiple e r 1 % z ≡ 0) same n.first in
        next_same e w b (next_multiple e r 1) (next_multiple e w b) (record {
          above = n.above;
          first = multiple_trans w s (next_multiple e r 1) t.multiple mult;
          second = multiple_trans b s (next_multiple e r 1) whole mult;
          least = λ m k p q. n.least m k (subst (λ z. m % z ≡ 0) (sym same) (t.common m p q)) (zero_mod 1 m (m, omega arith));
        }) (next_multiple-is e w b h g)

    far : (e : ℕ) → 2 ^ 40 + 1 ≤ s → r ≡ 2 ^ 40 + 1 → capped (next_multiple e r 1) ≡ capped (next_multiple e w b)
    far zero l same = ap capped (next_zero r 1 pos one ∙ sym (next_zero w b h g))
    far (suc e) l same =
        let first : r ≤ next_multiple (suc e) r 1 = next_far (suc e) r 1 r pos one (omega arith) (step_first r 1 pos) in
        let second : s ≤ next_multiple (suc e) w b = next_far (suc e) w b s h g (omega arith) t in
        both (next_multiple (suc e) r 1) (next_multiple (suc e) w b) (omega (arith, first)) (omega (arith, second))
      where
        both : (x y : ℕ) → 2 ^ 40 + 1 ≤ x → 2 ^ 40 + 1 ≤ y → capped x ≡ capped y
        both x y a b = omega arith

    by_size : ((s < 2 ^ 40 + 1) ⊎ (2 ^ 40 + 1 ≤ s)) → capped (next_multiple e r 1) ≡ capped (next_multiple e w b)
    by_size (inl l) = ap capped (near (whole l) (omega arith))
    by_size (inr l) = far e l (omega arith)

pub ruleset rounds = (step_first, step_on, round_zero, round_far, round_same, round_next)
