-- Two spans overlap exactly where a number lies in both.
use Rattle.std.proofs.Common.{◌≡◌, ◌<◌, ◌≤◌, Bool, true, false, refl, ap, ◌∙◌, arith, ◌⊎◌, inl, inr}
use Rattle.std.specs.Prelude.{◌&&◌, nat_lt}
use Rattle.std.proofs.lemmas.Bool.{cases_lt, lt-ltb, ltb-true}
use Rattle.rdl_elab.specs.declared.layout.Span.{Span}
use Rattle.rdl_elab.specs.Faults.{overlap, SharesANumber}

apart : false ≡ true → ⊥
apart e = cc

both : (x y : Bool) → (x && y) ≡ true → (x ≡ true) × (y ≡ true)
both true true e = (refl, refl)
both true false e = absurd (apart e)
both false y e = absurd (apart e)

pub overlap-shares : (a b : Span) → overlap a b ≡ true → SharesANumber a b
overlap-shares a b e =
    let last = both (nat_lt a.start a.end && nat_lt b.start b.end && nat_lt a.start b.end) (nat_lt b.start a.end) e in
    let third = both (nat_lt a.start a.end && nat_lt b.start b.end) (nat_lt a.start b.end) last.0 in
    let first = both (nat_lt a.start a.end) (nat_lt b.start b.end) third.0 in
    by_order (ltb-true a.start a.end first.0) (ltb-true b.start b.end first.1) (ltb-true a.start b.end third.1) (ltb-true b.start a.end last.1) (cases_lt a.start b.start)
  where
    by_order : a.start < a.end → b.start < b.end → a.start < b.end → b.start < a.end → ((a.start < b.start) ⊎ (b.start ≤ a.start)) → SharesANumber a b
    by_order h g k l (inl m) = record { number = b.start; after_first = omega arith; in_first = l; after_second = omega arith; in_second = g }
    by_order h g k l (inr m) = record { number = a.start; after_first = omega arith; in_first = h; after_second = m; in_second = k }

pub shares-overlap : (a b : Span) → SharesANumber a b → overlap a b ≡ true
shares-overlap a b s =
    let first : nat_lt a.start a.end ≡ true = lt-ltb a.start a.end (omega (arith, s.after_first, s.in_first)) in
    let second : nat_lt b.start b.end ≡ true = lt-ltb b.start b.end (omega (arith, s.after_second, s.in_second)) in
    let third : nat_lt a.start b.end ≡ true = lt-ltb a.start b.end (omega (arith, s.after_first, s.in_second)) in
    let fourth : nat_lt b.start a.end ≡ true = lt-ltb b.start a.end (omega (arith, s.after_second, s.in_first)) in
    ap (λ x. x && nat_lt b.start b.end && nat_lt a.start b.end && nat_lt b.start a.end) first
    ∙ ap (λ x. true && x && nat_lt a.start b.end && nat_lt b.start a.end) second
    ∙ ap (λ x. true && true && x && nat_lt b.start a.end) third
    ∙ ap (λ x. true && true && true && x) fourth
