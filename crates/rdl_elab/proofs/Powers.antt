-- A number with one bit set is a power of two.
use Rattle.std.proofs.Common.{◌≡◌, ℕ, zero, suc, ◌+◌, ◌*◌, ◌/◌, ◌%◌, ◌^◌, ◌<◌, ◌≤◌, Bool, true, false, refl, arith, Option, Some, None}
use Rattle.std.specs.Int.{IsPowerOfTwo, is_power_of_two}
use Rattle.std.proofs.Math.Nat.{pow-suc}
use Rattle.std.proofs.lemmas.Nat.{div-add-mod', mod_below}
use Rattle.std.proofs.lemmas.Bool.{eqb-true}
use Rattle.rdl_tree.specs.declared.property.Property.{Property}
use Rattle.rdl_tree.specs.declared.property.Property.TheVariants.{Alignment}
use Rattle.rdl_tree.specs.declared.value.Value.{Value}
use Rattle.rdl_elab.specs.Layouts.{number_in, power_in, layout_values}
use Rattle.rdl_elab.specs.Capped.{IsAlignment}
use lib.Count.{ones_in, ones}

none_set : (d n : ℕ) → n ≤ d → ones_in d n ≡ 0 → n ≡ 0
unfolding ones_in
none_set zero n h e = omega arith
none_set (suc d) n h e =
    let half : n / 2 ≡ 0 = none_set d (n / 2) (omega arith) (omega arith) in
    let whole : n / 2 * 2 + n % 2 ≡ n = div-add-mod' n 2 in
    omega arith

one_set : (d n : ℕ) → n ≤ d → ones_in d n ≡ 1 → IsPowerOfTwo n
unfolding ones_in
one_set zero n h e = absurd (omega arith)
one_set (suc d) n h e = by_digit (n % 2) (mod_below n 2 (omega arith)) (div-add-mod' n 2) e (λ k. one_set d (n / 2) (omega arith) k) (λ k. none_set d (n / 2) (omega arith) k)
  where
    by_digit : (r : ℕ) → r < 2 → n / 2 * 2 + r ≡ n → r + ones_in d (n / 2) ≡ 1 → (ones_in d (n / 2) ≡ 1 → IsPowerOfTwo (n / 2)) → (ones_in d (n / 2) ≡ 0 → n / 2 ≡ 0) → IsPowerOfTwo n
    by_digit zero l w e ih z = let half = ih (omega arith) in (suc half.0, twice half.0 half.1)
      where
        twice : (k : ℕ) → n / 2 ≡ 2 ^ k → n ≡ 2 ^ suc k
        twice k g = let p : 2 ^ suc k ≡ 2 ^ k * 2 = pow-suc 2 k in omega arith
    by_digit (suc zero) l w e ih z = let half : n / 2 ≡ 0 = z (omega arith) in (0, one half)
      where
        one : n / 2 ≡ 0 → n ≡ 2 ^ 0
        one half = omega arith
    by_digit (suc (suc r)) l w e ih z = absurd (omega arith)

pub power_from_test : (n : ℕ) → is_power_of_two n ≡ true → IsPowerOfTwo n
unfolding ones
power_from_test n h = one_set n n (omega arith) (eqb-true (ones n) 1 h)

pub power_in-power : (o : Option ℕ) → IsAlignment (power_in o)
power_in-power None = tt
power_in-power (Some n) = by_test (is_power_of_two n) refl
  where
    by_test : (t : Bool) → is_power_of_two n ≡ t → IsAlignment (elim t [ true ↦ Some n | false ↦ None ])
    by_test true h = power_from_test n h
    by_test false h = tt

pub alignment-power : (value : Property → Option Value) → IsAlignment (layout_values value).alignment
alignment-power value = power_in-power (number_in (value Alignment))
