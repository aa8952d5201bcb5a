use Rattle.std.proofs.Common.{◌≡◌, true, ◌-◌, ◌<◌, ◌∷◌, ◌++◌, [], length, map, sym, ap, subst, arith, rules, length-append}
use Rattle.journal_core.specs.History.{LeadsBetween}
use Rattle.rdl_edit.specs.Backs.{prior, Fits}
use Rattle.rdl_edit.specs.OfEdits.{IsOwn}
use Rattle.rdl_run.specs.Sessions.{LeadsAlong}
use Rattle.rdl_run.proofs.Leading.{EachIs, along, more-seen}
use Rattle.rdl_run.proofs.saving.steps_back.Goals as goal

pub steps-preserved : goal.steps-preserved
steps-preserved c =
    let j = c.args.journal.now.history in
    let xs = c.steps.steps.items in
    let x = c.patches.result in
    let pushed : c.push.new.self.items ≡ xs ++ x ∷ [] = search rules in
    let step = c.in-Some.back.now in
    let leads : LeadsBetween prior Fits j.states (j.place - length xs) (j.place - length xs - 1) step = search rules in
    let turns : c.len.result ≡ length xs = search rules in
    let own : j.own ≡ true → LeadsBetween prior IsOwn j.states (j.place - length xs) (j.place - length xs - 1) step =
    subst (λ n. j.own ≡ true → LeadsBetween prior IsOwn j.states (j.place - n) (j.place - n - 1) step) turns c.in-Some.ensures.own in
    let seen : x.now ≡ step.patches = search rules in
    let led : LeadsAlong j.own j.states (j.place - length xs) (j.place - length xs - 1) x.now = subst (LeadsAlong j.own j.states (j.place - length xs) (j.place - length xs - 1)) (sym seen)
    (along j.own j.states (j.place - length xs) (j.place - length xs - 1) step leads own) in
    let room : length xs < j.place = search rules in
    record {
      few = omega (arith, ap length pushed, length-append xs (x ∷ []), room);
      each = subst (λ ys. EachIs (λ i. LeadsAlong j.own j.states (j.place - i) (j.place - i - 1)) (map (λ step. step.now) ys)) (sym pushed) (more-seen (λ step. step.now) (λ i. LeadsAlong j.own j.states (j.place - i) (j.place - i - 1)) xs x c.steps.invariant.each led);
      own = λ all.
          let own : LeadsBetween prior IsOwn j.states (j.place - length xs) (j.place - length xs - 1) step =
          subst (λ n. LeadsBetween prior IsOwn j.states (j.place - n) (j.place - n - 1) step) turns (c.in-Some.ensures.all_own all) in
          let made : LeadsAlong true j.states (j.place - length xs) (j.place - length xs - 1) x.now = subst (LeadsAlong true j.states (j.place - length xs) (j.place - length xs - 1)) (sym seen) (along true j.states (j.place - length xs) (j.place - length xs - 1) step leads (λ e. own)) in
          subst (λ ys. EachIs (λ i. LeadsAlong true j.states (j.place - i) (j.place - i - 1)) (map (λ step. step.now) ys)) (sym pushed)
          (more-seen (λ step. step.now) (λ i. LeadsAlong true j.states (j.place - i) (j.place - i - 1)) xs x (c.steps.invariant.own all) made);
    }
