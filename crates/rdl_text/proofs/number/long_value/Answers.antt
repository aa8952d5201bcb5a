-- The end of the digits, and a number that has too many bits whatever follows.
use Rattle.std.proofs.Common.{◌≡◌, ℕ, ◌+◌, ◌*◌, ◌^◌, ◌≤◌, get_or, drop, length, None, ◌∙◌, sym, ap, arith, refl}
use Rattle.std.specs.Char.{digit_value}
use Rattle.std.proofs.Math.ListN.{drop_of_length-le}
use Rattle.rdl_text.specs.Number.{number_bits, value, in_bits}
use Rattle.rdl_text.proofs.Numbers.{value_after, value_is, le-value_after, value_after-digit, too_large, in_bits_none, in_bits_some, counts}
use Rattle.std.specs.List.{filter}
use Rattle.rdl_text.proofs.number.long_value.Goals as goal

pub returns : goal.returns
returns c =
    let v = c.digits.value in
    let ds = c.args.digits.now in
    let past : length ds ≤ c.digits.byte-index = omega arith in
    let end = drop_of_length-le ds past in
    let worth : value_after c.args.base v (drop c.digits.byte-index ds) ≡ v = rw end refl in
    let same : v ≡ value c.args.base ds = sym worth ∙ (c.digits.invariant.1 ∙ sym (value_is c.args.base ds)) in
    sym (in_bits_some v c.digits.invariant.0) ∙ ap in_bits same

pub returns-in_err-value : goal.returns-in_err-value
returns-in_err-value c =
    let v = c.digits.value in
    let ds = c.args.digits.now in
    let base = c.args.base in
    let i = c.digits.byte-index in
    let next = v * base + digit_value (get_or ds i 0) in
    let worth : value base ds ≡ value_after base next (drop (i + 1) ds) =
    value_is base ds ∙ (sym c.digits.invariant.1 ∙ value_after-digit base v i ds c.digits-test.true c.if-byte-ne95.true) in
    let none : in_bits next ≡ None = ap (λ (d : ℕ). in_bits (v * base + d)) (sym c.digit_value.ensures.value) ∙ sym c.in_err-value.ensures in
    let large : 2 ^ number_bits ≤ value base ds = rw worth (omega (arith, too_large next none, le-value_after base next (filter counts (drop (i + 1) ds)) c.requires)) in
    rw c.from_residual.ensures (sym (in_bits_none _ large))
