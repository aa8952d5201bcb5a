-- A number of 128 bits has no bit past the 127th.
use Rattle.std.proofs.Common.{◌≡◌, ℕ, ◌^◌, ◌<◌, ◌≤◌, false, sym, arith, ◌⊎◌, inl, inr, ap}
use Rattle.std.specs.Prelude.{nat_le}
use Rattle.std.proofs.lemmas.Nat.{pow_below}
use Rattle.std.proofs.lemmas.Bool.{cases_lt, lt-leb}

power_above : (w : ℕ) → 128 ≤ w → 2 ^ 128 ≤ 2 ^ w
power_above w h = by_order (cases_lt 128 w)
  where
    by_order : ((128 < w) ⊎ (w ≤ 128)) → 2 ^ 128 ≤ 2 ^ w
    by_order (inl l) = let p : 2 ^ 128 < 2 ^ w = pow_below 128 w l in omega arith
    by_order (inr l) = let e : 128 ≡ w = omega arith in let p : 2 ^ 128 ≡ 2 ^ w = ap (λ k. 2 ^ k) e in omega arith

pub within_word : (n w : ℕ) → n < 2 ^ 128 → 128 ≤ w → false ≡ nat_le (2 ^ w) n
within_word n w h g = let p : 2 ^ 128 ≤ 2 ^ w = power_above w g in sym (lt-leb (2 ^ w) n (omega arith))
