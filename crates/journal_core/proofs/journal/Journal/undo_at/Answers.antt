use Rattle.std.proofs.Common.{◌≡◌, ◌-◌, ap, sym, ◌∙◌, subst, option_copied, slice_get, length, IfSome}
use mathlib.Core.List.{reverse}
use Rattle.journal_core.specs.Along.{states_along}
use Rattle.journal_core.specs.History.{AllAre, LeadsBetween}
use Rattle.journal_core.proofs.Stacks.{all-now}
use Rattle.journal_core.proofs.Ways.{fit-stack, of_value, within_reverse, back-at}
use Rattle.journal_core.proofs.journal.Journal.undo_at.Goals as goal

pub returns-clause-leads : goal.returns-clause-leads
returns-clause-leads g c =
    let m = g.M.Invertible in
    let j = c.self.inside in
    let now = m.state j.map in
    let i = c.args.i in
    let found : option_copied c.from_the_end.result ≡ slice_get (reverse j.done.items) i = c.from_the_end.ensures ∙ ap (λ xs. slice_get (reverse xs) i) c.as_slice.ensures.value in
    subst (λ k. IfSome c.from_the_end.result (λ back. LeadsBetween m.prior m.fits k.history.states (k.history.place - i) (k.history.place - i - 1) back.now)) c.self.view_is
    (of_value c.from_the_end.result (slice_get (reverse j.done.items) i) (LeadsBetween m.prior m.fits _ (length j.done.items - i) (length j.done.items - i - 1)) found
    (λ b e. back-at m.prior m.fits now j.done.items (reverse (states_along m.prior now j.undone.items)) i b c.self.invariant.done_fit (within_reverse j.done.items i b e) e))

pub returns-clause-own : goal.returns-clause-own
returns-clause-own g c = λ is_own.
    let m = g.M.Invertible in
    let j = c.self.inside in
    let now = m.state j.map in
    let i = c.args.i in
    let found : option_copied c.from_the_end.result ≡ slice_get (reverse j.done.items) i = c.from_the_end.ensures ∙ ap (λ xs. slice_get (reverse xs) i) c.as_slice.ensures.value in
    subst (λ k. IfSome c.from_the_end.result (λ back. LeadsBetween m.prior m.own k.history.states (k.history.place - i) (k.history.place - i - 1) back.now)) c.self.view_is
    (of_value c.from_the_end.result (slice_get (reverse j.done.items) i) (LeadsBetween m.prior m.own _ (length j.done.items - i) (length j.done.items - i - 1)) found
    (λ b e. back-at m.prior m.own now j.done.items (reverse (states_along m.prior now j.undone.items)) i b (c.self.invariant.done_own (ap (λ k. k.history.own) c.self.view_is ∙ is_own)) (within_reverse j.done.items i b e) e))

pub returns-clause-step : goal.returns-clause-step
returns-clause-step g c =
    let j = c.self.inside in
    let i = c.args.i in
    c.from_the_end.ensures ∙ ap (λ xs. slice_get (reverse xs) i) c.as_slice.ensures.value ∙ ap (λ k. slice_get k.undo i) c.self.view_is

pub returns-clause-all_own : goal.returns-clause-all_own
returns-clause-all_own g c = λ all.
    let m = g.M.Invertible in
    let j = c.self.inside in
    let now = m.state j.map in
    let i = c.args.i in
    let found : option_copied c.from_the_end.result ≡ slice_get (reverse j.done.items) i = c.from_the_end.ensures ∙ ap (λ xs. slice_get (reverse xs) i) c.as_slice.ensures.value in
    subst (λ k. IfSome c.from_the_end.result (λ back. LeadsBetween m.prior m.own k.history.states (k.history.place - i) (k.history.place - i - 1) back.now)) c.self.view_is
    (of_value c.from_the_end.result (slice_get (reverse j.done.items) i) (LeadsBetween m.prior m.own _ (length j.done.items - i) (length j.done.items - i - 1)) found
    (λ b e. back-at m.prior m.own now j.done.items (reverse (states_along m.prior now j.undone.items)) i b (fit-stack m.prior m.own now j.done.items (all-now m.prior m.own j.limit now j.done.items j.undone.items j.is_own (subst (AllAre m.prior m.own) (sym c.self.view_is) all)).0) (within_reverse j.done.items i b e) e))
