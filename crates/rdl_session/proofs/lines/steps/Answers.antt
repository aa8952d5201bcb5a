use Rattle.std.proofs.Common.{◌-◌, ◌∙◌, sym, ap, arith}
use Rattle.std.specs.Prelude.{map, option_map}
use Rattle.rdl_session.specs.Reading.{◌>>=◌, many, step_in, steps_in}
use Rattle.rdl_session.specs.Seen.{seen}
use Rattle.rdl_session.proofs.Runs.{behind, run-on, run-stop, run-end, run-begin}
use Rattle.rdl_session.proofs.lines.steps.Goals as goal

pub steps-init : goal.steps-init
unfolding steps_in
steps-init c =
    ap (λ xs. behind (map (λ patches. map seen patches.items) xs) (many step_in (c.in-Some.count - 0) c.in-Some.rest.now)) c.new-steps.ensures.items
    ∙ run-begin step_in c.in-Some.count c.in-Some.rest.now _ (ap (λ o. o >>= λ k. many step_in k.0 k.1) c.in-Some.ensures)

pub returns-in-None : goal.returns-in-None
returns-in-None c =
    run-stop step_in (map (λ patches. map seen patches.items) c.steps.steps.items) c.in-Some.count c.steps._number c.steps.rest.now _ c.steps-test.true
    (sym c.in_ok-patches.ensures ∙ ap (option_map (λ p. (map seen p.0.items, p.1.now))) c.in-None.is) c.steps.invariant

pub steps-preserved : goal.steps-preserved
steps-preserved c =
    run-on (λ patches. map seen patches.items) step_in c.steps.steps.items c.push.new.self.items c.in-Some.count c.steps._number c.in-Some-2.patches c.steps.rest.now c.in-Some-2.behind.now _ c.steps-test.true
    (sym c.in_ok-patches.ensures ∙ ap (option_map (λ p. (map seen p.0.items, p.1.now))) c.in-Some-2.is) c.in_ok-push-in-Some-2.ensures.items c.steps.invariant

pub returns : goal.returns
returns c =
    run-end step_in (map (λ patches. map seen patches.items) c.steps.steps.items) c.in-Some.count c.steps._number c.steps.rest.now _ (omega (arith, c.steps-test.false, c.steps.auto._number-end)) c.steps.invariant
