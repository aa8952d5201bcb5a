-- The number of the history: what `parse` reads of its text.
use Rattle.std.proofs.Common.{◌≡◌, ◌∙◌, ◌<◌, ◌==◌, ◌^◌, ℕ, Bool, true, false, List, [], ◌∷◌, cond, Option, Some, None, Result, refl, sym, ap, subst, arith}
use Rattle.std.specs.Prelude.{pos, unwrap_or}
use Rattle.std.specs.Str.Parse.{ExplainsUnsignedError, HasUnsignedDigitsIfOk, ParsesUnsigned, digits_value, signed_digits_value, starts_with_minus, without_leading_plus}
use Rattle.std.proofs.lemmas.Int.{ints}
use Rattle.std.specs.declared.num.ParseIntError.{ParseIntError}
use Rattle.clap.specs.Words.{Row, Text, one_of, without_minus}
use Rattle.clap.specs.Matches.{ReadsOne}
use Rattle.clap.specs.Values.{IsSignedIn}
use Rattle.std.specs.Prelude.{codes, IsSomeAnd}
use Rattle.command_line.specs.Words.{HasHistory, NumbersHistory, Spells}

abbrev InRange : Text → Type 0
InRange = IsSignedIn (pos 1) (pos 1000000)

no_minus : (text : Text) → InRange text → starts_with_minus text ≡ false
no_minus text passed = go (starts_with_minus text) refl
  where
    go : (b : Bool) → starts_with_minus text ≡ b → b ≡ false
    go true minus =
        let least = rw minus at passed.2 in
        absurd (omega (arith, ints))
    go false minus = refl

stays : (text : Text) → starts_with_minus text ≡ false → without_minus text ≡ text
stays [] e = refl
stays (x ∷ xs) e = go (x == 45) e
  where
    go : (b : Bool) → b ≡ false → unwrap_or (cond b (Some xs) None) (x ∷ xs) ≡ x ∷ xs
    go true e = cc
    go false e = refl

abbrev pub ParsesWord : Text → Result ℕ ParseIntError → Type 0
ParsesWord bytes r = ParsesUnsigned 32 10 bytes r × ExplainsUnsignedError 10 bytes r × HasUnsignedDigitsIfOk bytes r

numeral : (text : Text) → starts_with_minus text ≡ false → signed_digits_value 10 text ≡ pos (digits_value 10 (without_leading_plus text))
numeral text plain = rw plain refl

abbrev number : Text → ℕ
number text = digits_value 10 (without_leading_plus text)

read : (rows : List Row) (h : HasHistory rows) (r : Option ℕ) → starts_with_minus h.text ≡ false → ReadsOne ParsesWord h.text r → (n : ℕ) × (r ≡ Some n) × NumbersHistory rows n
read rows h (Some n) plain parsed =
    let least = rw plain at h.fits.2 in
    let most = rw plain at h.fits.3 in
    let is : n ≡ number h.text = parsed.0.1 in
    let spelled : Spells h.text n = numeral h.text plain ∙ ap pos (sym is) in (
      n,
      refl,
      record {
        spelled = subst (λ o. IsSomeAnd o (λ text. Spells text n)) (sym h.is) spelled;
        least = rw is (omega (arith, ints));
        most = rw is (omega (arith, ints));
      },
    )
read rows h None plain parsed =
    let most = rw plain at h.fits.3 in
    let digits = rw plain at h.fits.0 in
    let small : number h.text < 2 ^ 32 = omega (arith, ints) in
    absurd (parsed.1.0 (digits, small))

pub history_read : (rows : List Row) (h : HasHistory rows) (r : Option ℕ) → ((text : Text) → one_of (codes "history") rows ≡ Some text → ReadsOne ParsesWord text r)
    → (n : ℕ) × (r ≡ Some n) × NumbersHistory rows n
history_read rows h r reads =
    let plain = no_minus h.text h.fits in
    read rows h r plain (subst (λ text. ReadsOne ParsesWord text r) (stays h.text plain) (reads (without_minus h.text) h.read))
