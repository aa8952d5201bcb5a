-- A number of few digits has few bits.
use Rattle.std.proofs.Common.{◌≡◌, ℕ, ◌-◌, ◌≤◌, ◌^◌, nat_lt, Bool, true, cond, List, length, drop, take, min, Result, Ok, Err, inl, inr, sym, ◌∙◌, ap, subst, refl, arith}
use Rattle.std.proofs.lemmas.Bool.{leb-true}
use Rattle.std.proofs.lemmas.List.{length-take}
use Rattle.std.specs.Prelude.{slice_range}
use Rattle.rdl_text.specs.Front.{kind_in}
use Rattle.rdl_text.specs.Number.{number_bits, value}
use Rattle.rdl_text.specs.Words.{number}
use Rattle.rdl_text.specs.declared.fault.WordFault.{WordFault}
use Rattle.rdl_text.specs.declared.fault.WordFault.TheVariants.{NumberTooLarge}
use Rattle.rdl_text.specs.declared.piece.Row.{Row}
use Rattle.rdl_text.specs.declared.token.TokenKind.{TokenKind}
use Rattle.rdl_text.specs.declared.token.TokenKind.TheVariants as kinds
use Rattle.rdl_text.proofs.Numbers.{value_small}
use Rattle.rdl_text.proofs.rows.is_small.Goals as goal

few : (s : List ℕ) (from len : ℕ) → len ≤ 20 → length (slice_range s from len) ≤ 20
few s from len h = omega (arith, h, length-take (len - from) (drop from s))

HasValue : Result TokenKind WordFault → Type 0
HasValue k = (value : ℕ) × (k ≡ Ok (kinds.Number value))

number_small : (base from len : ℕ) (s : List ℕ) → base ≤ 16 → len ≤ 20 → HasValue (number (value base (slice_range s from len)))
unfolding HasValue
number_small base from len s h low = (value base (slice_range s from len), rw (value_small base (slice_range s from len) h (few s from len low)) refl)

pub returns-in-Decimal : goal.returns-in-Decimal
unfolding HasValue
returns-in-Decimal c = λ small s inside.
    let low : c.args.front.len ≤ 20 = leb-true c.args.front.len 20 small in
    elim c.in-Decimal.is [
      | inl is ↦ subst (λ (row : Row). HasValue (kind_in row s c.args.front.len)) (sym is) (number_small 10 0 c.args.front.len s (omega arith) low)
      | inr is ↦ subst (λ (row : Row). HasValue (kind_in row s c.args.front.len)) (sym is) (number_small 16 2 c.args.front.len s (omega arith) low)
    ]
