use Rattle.std.proofs.Common.{◌≡◌, ◌+◌, ◌<◌, ◌^◌, true, false, length, refl, sym, ap, subst, ◌∙◌, arith, rules, add-one}
use Rattle.std.specs.Prelude.{slice_get}
use Rattle.std.proofs.lemmas.Option.{slice_get_read}
use Rattle.rdl_seen.specs.Slots.{no_slots}
use Rattle.rdl_renew.specs.PassedOver.{MayPass, IsPassed, ArePassed}
use Rattle.rdl_renew.proofs.done.Done.pass_over.Goals as goal
use Rattle.rdl_renew.proofs.done.Done.pass_over.Goals.{In_ok-keep, else-not-is_settled-via-then-not-is_settled+else-not-is_in_front, else-not-is_settled-via-else-not-is_settled}

pub loop-passed-init : goal.loop-passed-init
loop-passed-init c = record { passed = refl; few = omega arith }

-- the number of the next one
number_is : (c : In_ok-keep) → c.saturating_add-number.result ≡ c.args.stretch.from + c.loop-passed.passed
number_is c =
    let fit : length c.args.before.now < 2 ^ 64 = search rules in
    let within = c.in-Some.ensures.lookup.3.0 in
    omega (arith, c.saturating_add-number.ensures, fit, within)

may_pass : (c : In_ok-keep) → MayPass c.args.before.now c.args.front (c.args.stretch.from + c.loop-passed.passed) c.loop-passed.self c.in-Some.slot.now
may_pass c = record {
  there =
      ap (slice_get c.args.before.now) (sym (number_is c))
      ∙ slice_get_read c.args.before.now (length c.args.before.now) c.saturating_add-number.result c.in-Some.slot.now refl c.in-Some.ensures.lookup.3.0 c.in-Some.ensures.lookup.1;
  is_settled = c.is_settled-is_settled.result;
  settled = λ so. sym (c.is_settled-is_settled.ensures no_slots) ∙ so;
  in_front = λ not. elim c.else-not-is_settled.branch [
    | else-not-is_settled-via-then-not-is_settled+else-not-is_in_front w ↦ w.is_in_front.ensures w.if-not-is_in_front.false
    | else-not-is_settled-via-else-not-is_settled w ↦ absurd (let no : true ≡ false = sym w.if-not-is_settled.false ∙ not in cc)
  ];
}

pub loop-passed-preserved : goal.loop-passed-preserved
loop-passed-preserved c =
    let d = c.loop-passed.self in
    let number = number_is c in
    let one : IsPassed c.args.before.now c.args.front (c.args.stretch.from + c.loop-passed.passed) d c.keep.new.self =
    record {
      slot = c.in-Some.slot.now;
      may = may_pass c;
      kept = record {
        slots = c.in_ok-keep.ensures.slots;
        reach = c.in_ok-keep.ensures.reach;
        lasts = c.in_ok-keep.ensures.lasts;
        in_place = λ so. let two = c.in_ok-keep.ensures.in_place so in (two.0, sym number ∙ two.1);
        add_same = λ so. let two = c.in_ok-keep.ensures.add_same so in (two.0, sym number ∙ two.1);
        alike = c.in_ok-keep.ensures.alike;
      };
    } in
    record {
      passed =
          subst (λ k. ArePassed c.args.before.now c.args.front c.args.stretch.from k c.args.self.now c.keep.new.self) (sym (add-one c.loop-passed.passed))
          (d, c.loop-passed.invariant.passed, one);
      few = let l = c.loop-passed-test.true in omega (arith, l);
    }
