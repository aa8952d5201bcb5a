-- Ones up to an end without those up to a start are ones between them.
use Rattle.std.proofs.Common.{◌≡◌, ℕ, zero, suc, ◌+◌, ◌*◌, ◌-◌, ◌^◌, ◌<◌, ◌≤◌, ap, sym, ◌∙◌, arith}
use Rattle.std.specs.Prelude.{min}
use Rattle.std.proofs.lemmas.Nat.{pow-add, pow_pos}
use Rattle.std.proofs.Math.Pow.{pow_mono}
use Rattle.std.proofs.Math.Nat.{suc-mul}

-- a power by its exponent's parts
power-parts : (s e : ℕ) → s ≤ e → 2 ^ (e - s) * 2 ^ s ≡ 2 ^ e
power-parts s e h = let n : e - s + s ≡ e = omega arith in sym (pow-add 2 (e - s) s) ∙ ap (λ k. 2 ^ k) n

-- one copy less
one-less : (a b : ℕ) → (a - 1) * b ≡ a * b - b
one-less zero b = omega arith
one-less (suc k) b = let n : suc k - 1 ≡ k = omega arith in let m : suc k * b ≡ k * b + b = suc-mul k b in ap (λ x. x * b) n ∙ omega arith

pub ones_between : (s e : ℕ) → s < e → e ≤ 128 → 2 ^ e - 1 - (2 ^ s - 1) ≡ min ((2 ^ (e - s) - 1) * 2 ^ s) (2 ^ 128 - 1)
ones_between s e h w =
    let parts = power-parts s e (omega arith) in
    let less = one-less (2 ^ (e - s)) (2 ^ s) in
    let top : 2 ^ e ≤ 2 ^ 128 = pow_mono w in
    let low : 2 ^ s ≤ 2 ^ e = pow_mono (omega arith) in
    let pos = pow_pos s in
    omega arith

pub ones_past : (s e : ℕ) → s < e → 128 < e → 2 ^ 128 - 1 ≡ min ((2 ^ (e - s) - 1) * 2 ^ s) (2 ^ 128 - 1)
ones_past s e h w =
    let parts = power-parts s e (omega arith) in
    let less = one-less (2 ^ (e - s)) (2 ^ s) in
    let top : 2 ^ 129 ≤ 2 ^ e = pow_mono {i = 129} {j = e} (omega arith) in
    let half : 2 ^ (s + 1) ≤ 2 ^ e = pow_mono (omega arith) in
    let twice : 2 ^ (s + 1) ≡ 2 ^ s * 2 = pow-add 2 s 1 in
    omega arith

pub ones_grow : (s e : ℕ) → s < e → 2 ^ s - 1 ≤ 2 ^ e - 1
ones_grow s e h = let low : 2 ^ s ≤ 2 ^ e = pow_mono (omega arith) in omega arith

pub ruleset masks = (ones_between, ones_past, ones_grow)
