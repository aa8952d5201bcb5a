use Rattle.std.proofs.Common.{◌≡◌, ◌+◌, length, ap, sym, ◌∙◌, subst, arith}
use mathlib.Core.List.{reverse}
use Rattle.std.proofs.lemmas.Result.{on_ok_weaker}
use Rattle.journal_core.specs.History.{after_redo, AllAre, Moves}
use Rattle.journal_core.proofs.Stacks.{redone, length-states-all, stacks-moved, stands, all-now, now-all, taken-own}
use Rattle.journal_core.proofs.journal.Journal.redo.Goals as goal

pub returns-clause-ok : goal.returns-clause-ok
returns-clause-ok g c = on_ok_weaker c.take_step.result (λ s. redone _ _ _ _ _ _ _ _ _ _ s ∙ ap (λ k. after_redo k.history) c.self.view_is) c.take_step.ensures.ok

pub returns-clause-nothing : goal.returns-clause-nothing
returns-clause-nothing g c =
    let m = g.M.Invertible in
    let j = c.self.inside in
    let h = c.args.self.now.history in
    let len : length h.states ≡ h.place + (length j.undone.items + 1) =
    subst (λ k. length k.history.states ≡ k.history.place + (length j.undone.items + 1)) c.self.view_is (length-states-all m.prior (m.state j.map) j.done.items j.undone.items) in
    (λ e. c.take_step.ensures.nothing.0 (omega (arith, len, e)), λ e. let none : length j.undone.items ≡ 0 = c.take_step.ensures.nothing.1 e in omega (arith, len, none))

pub returns-clause-steps : goal.returns-clause-steps
returns-clause-steps g c =
    let m = g.M.Invertible in
    let j = c.self.inside in
    let now = m.state j.map in
    let there = stands m.prior j.limit now j.done.items j.undone.items j.is_own in
    on_ok_weaker c.take_step.result
    (λ s. subst (λ k. Moves m.turns k.history k.redo (reverse c.take_step.new.from.items) k.undo (reverse c.take_step.new.to.items)) c.self.view_is
    (stacks-moved m.prior m.turns m.own _ now _ j.undone.items c.take_step.new.from.items j.done.items c.take_step.new.to.items there s))
    c.take_step.ensures.ok

pub returns-clause-stay_own : goal.returns-clause-stay_own
returns-clause-stay_own g c = λ own.
    let m = g.M.Invertible in
    let j = c.self.inside in
    let now = m.state j.map in
    let t = c.take_step.new in
    let kept = all-now m.prior m.own j.limit now j.done.items j.undone.items j.is_own (subst (AllAre m.prior m.own) (sym c.self.view_is) own) in
    let moved = taken-own m.prior m.turns m.own c.take_step.result now (m.state t.map) j.undone.items t.from.items j.done.items t.to.items
    c.take_step.ensures.ok c.take_step.ensures.map c.take_step.ensures.from c.take_step.ensures.to (kept.1, kept.0) in
    now-all m.prior m.own j.limit (m.state t.map) t.to.items t.from.items j.is_own (moved.1, moved.0)
