use Rattle.std.proofs.Common.{rules, ◌≡◌, [], ◌∷◌, ◌++◌, sym, ap, ◌∙◌, subst}
use mathlib.Core.List.{reverse}
use Rattle.journal_core.specs.Along.{FitAlong, FitInTurn, states_along}
use Rattle.journal_core.specs.History.{AllAre, IsAt, after_edit}
use Rattle.journal_core.proofs.Stacks.{edited, FitAlong-push, slice_get_at, length-states, reverse-last, stands, all-now, now-all, added-own}
use Rattle.journal_core.proofs.journal.Journal.edit.Goals as goal

pub invariant_of-self-in-Ok : goal.invariant_of-self-in-Ok
invariant_of-self-in-Ok g c =
    let m = g.M.Invertible in
    let j = c.self.inside in
    let items : c.push.new.self.items ≡ j.done.items ++ c.in-Ok.back ∷ [] = search rules in
    record {
      done_fit = subst (FitAlong m.prior m.fits (m.state c.apply.new.self)) (sym items)
          (FitAlong-push m.prior m.fits _ _ _ c.in-Ok.ensures.fits (subst (λ s. FitAlong m.prior m.fits s j.done.items) (sym c.in-Ok.ensures.back) c.self.invariant.done_fit));
      undone_fit = subst (FitAlong m.prior m.fits (m.state c.apply.new.self)) (sym c.clear.ensures.items) tt;
      done_own = λ is_own. subst (FitAlong m.prior m.own (m.state c.apply.new.self)) (sym items)
          (FitAlong-push m.prior m.own _ _ _ c.in-Ok.ensures.own (subst (λ s. FitAlong m.prior m.own s j.done.items) (sym c.in-Ok.ensures.back) (c.self.invariant.done_own is_own)));
      undone_own = λ is_own. subst (FitAlong m.prior m.own (m.state c.apply.new.self)) (sym c.clear.ensures.items) tt;
    }

pub returns-in-Ok-clause-ok : goal.returns-in-Ok-clause-ok
returns-in-Ok-clause-ok g c =
    let m = g.M.Invertible in
    let j = c.self.inside in
    let now = m.state j.map in
    let items : c.push.new.self.items ≡ j.done.items ++ c.in-Ok.back ∷ [] = search rules in
    record {
      from = now;
      to = m.state c.apply.new.self;
      stood = subst (λ k. IsAt k.history now) c.self.view_is
          (slice_get_at (states_along m.prior now j.done.items) (reverse (states_along m.prior now j.undone.items)) now _ (length-states m.prior now j.done.items));
      led = c.in-Ok.ensures.leads;
      edited = edited m.prior now (m.state c.apply.new.self) _ _ j.done.items c.push.new.self.items j.undone.items c.clear.new.self.items _ items c.clear.ensures.items c.in-Ok.ensures.back
          ∙ ap (λ k. after_edit k.history (m.state c.apply.new.self)) c.self.view_is;
    }

pub returns-in-Err-clause-fault : goal.returns-in-Err-clause-fault
returns-in-Err-clause-fault g c =
    let m = g.M.Invertible in
    let j = c.self.inside in
    let now = m.state j.map in
    record {
      at = now;
      stood = subst (λ k. IsAt k.history now) c.self.view_is
          (slice_get_at (states_along m.prior now j.done.items) (reverse (states_along m.prior now j.undone.items)) now _ (length-states m.prior now j.done.items));
      refused = c.in-Err.ensures.refused;
    }

pub returns-in-Ok-clause-steps : goal.returns-in-Ok-clause-steps
returns-in-Ok-clause-steps g c =
    let m = g.M.Invertible in
    let j = c.self.inside in
    let now = m.state j.map in
    let items : c.push.new.self.items ≡ j.done.items ++ c.in-Ok.back ∷ [] = search rules in
    record {
      step = c.in-Ok.back;
      from = now;
      stood = subst (λ k. IsAt k.history now) c.self.view_is (stands m.prior j.limit now j.done.items j.undone.items j.is_own);
      left = c.in-Ok.ensures.leaves;
      undo = ap reverse items ∙ reverse-last j.done.items c.in-Ok.back ∙ ap (λ k. c.in-Ok.back ∷ k.undo) c.self.view_is;
      redo = ap reverse c.clear.ensures.items;
    }

pub returns-in-Ok-clause-stay_own : goal.returns-in-Ok-clause-stay_own
returns-in-Ok-clause-stay_own g c = λ own.
    let m = g.M.Invertible in
    let j = c.self.inside in
    let now = m.state j.map in
    let new = m.state c.apply.new.self in
    let items : c.push.new.self.items ≡ j.done.items ++ c.in-Ok.back ∷ [] = search rules in
    let kept = all-now m.prior m.own j.limit now j.done.items j.undone.items j.is_own (subst (AllAre m.prior m.own) (sym c.self.view_is) own) in
    now-all m.prior m.own j.limit new c.push.new.self.items c.clear.new.self.items j.is_own (
      added-own m.prior m.own now new j.done.items c.push.new.self.items c.in-Ok.back items c.in-Ok.ensures.back c.in-Ok.ensures.own kept.0,
      subst (λ bs. FitInTurn m.prior m.own new (reverse bs)) (sym c.clear.ensures.items) tt,
    )
