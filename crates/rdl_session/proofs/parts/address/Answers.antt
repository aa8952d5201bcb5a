use Rattle.std.proofs.Common.{◌≡◌, ◌-◌, ◌<◌, [], ◌∷◌, length, None, Some, sym, ap, ◌∙◌, arith, rules}
use Rattle.std.proofs.lemmas.List.{length-append}
use Rattle.rdl_session.specs.Reading.{address_in}
use Rattle.rdl_session.proofs.Cuts.{ahead, address-on, address-stop, address-stop_last, address-full, address-last, cut-shorter}
use Rattle.rdl_session.proofs.parts.address.Goals as goal

pub returns-in_err-number : goal.returns-in_err-number
returns-in_err-number c =
    let none : c.from_residual.result ≡ None = search rules in
    none ∙ address-stop c.numbers.address c.numbers.rest.now _ _ (sym c.in-Some.ensures) (sym c.number.ensures ∙ c.in_err-number.was) c.numbers.invariant.told

pub returns-then-len-eq-MAX_LEN : goal.returns-then-len-eq-MAX_LEN
returns-then-len-eq-MAX_LEN c = address-full c.numbers.address c.numbers.rest.now _ (sym c.len.ensures.same ∙ c.if-len-eq-MAX_LEN.true) c.numbers.invariant.told

pub numbers-smaller : goal.numbers-smaller
numbers-smaller c = cut-shorter 46 c.numbers.rest.now _ (sym c.in-Some.ensures)

pub numbers-preserved : goal.numbers-preserved
numbers-preserved c =
    let room : length c.numbers.address < 17 = omega (arith, c.len.ensures.same, c.numbers.invariant.short, c.if-len-eq-MAX_LEN.false) in
    record {
      short = omega (arith, ap length c.push.ensures, length-append c.numbers.address (c.in_ok-number.number ∷ []), room);
      told =
          ap (λ xs. ahead xs (address_in (17 - length xs) c.in-Some.others.now)) c.push.ensures
          ∙ address-on c.numbers.address c.numbers.rest.now _ c.in_ok-number.number _ (sym c.in-Some.ensures) (sym c.number.ensures ∙ c.in_ok-number.was) room c.numbers.invariant.told;
    }

pub returns-in_err-last : goal.returns-in_err-last
returns-in_err-last c =
    let none : c.from_residual-in_err-last.result ≡ None = search rules in
    none ∙ address-stop_last c.numbers.address c.numbers.rest.now _ (sym c.in_default.ensures) (sym c.number-2.ensures ∙ c.in_err-last.was) c.numbers.invariant.told

pub returns-then-len-eq-MAX_LEN-2 : goal.returns-then-len-eq-MAX_LEN-2
returns-then-len-eq-MAX_LEN-2 c = address-full c.numbers.address c.numbers.rest.now _ (sym c.len-2.ensures.same ∙ c.if-len-eq-MAX_LEN-2.true) c.numbers.invariant.told

pub returns : goal.returns
returns c =
    let room : length c.numbers.address < 17 = omega (arith, c.len-2.ensures.same, c.numbers.invariant.short, c.if-len-eq-MAX_LEN-2.false) in
    ap (λ a. Some a) c.push-2.ensures
    ∙ address-last c.numbers.address c.numbers.rest.now c.in_ok-last.last _ (sym c.in_default.ensures) (sym c.number-2.ensures ∙ c.in_ok-last.was) room c.numbers.invariant.told
