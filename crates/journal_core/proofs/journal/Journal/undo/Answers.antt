use Rattle.std.proofs.Common.{ap, sym, ◌∙◌, subst}
use mathlib.Core.List.{reverse}
use Rattle.std.proofs.lemmas.Result.{on_ok_weaker}
use Rattle.journal_core.specs.History.{after_undo, AllAre, Moves}
use Rattle.journal_core.proofs.Stacks.{undone, stacks-moved, stands, all-now, now-all, taken-own}
use Rattle.journal_core.proofs.journal.Journal.undo.Goals as goal

pub returns-clause-ok : goal.returns-clause-ok
returns-clause-ok g c = on_ok_weaker c.take_step.result (λ s. undone _ _ _ _ _ _ _ _ _ _ s ∙ ap (λ k. after_undo k.history) c.self.view_is) c.take_step.ensures.ok

pub returns-clause-steps : goal.returns-clause-steps
returns-clause-steps g c =
    let m = g.M.Invertible in
    let j = c.self.inside in
    let now = m.state j.map in
    let there = stands m.prior j.limit now j.done.items j.undone.items j.is_own in
    on_ok_weaker c.take_step.result
    (λ s. subst (λ k. Moves m.turns k.history k.undo (reverse c.take_step.new.from.items) k.redo (reverse c.take_step.new.to.items)) c.self.view_is
    (stacks-moved m.prior m.turns m.own _ now _ j.done.items c.take_step.new.from.items j.undone.items c.take_step.new.to.items there s))
    c.take_step.ensures.ok

pub returns-clause-stay_own : goal.returns-clause-stay_own
returns-clause-stay_own g c = λ own.
    let m = g.M.Invertible in
    let j = c.self.inside in
    let now = m.state j.map in
    let t = c.take_step.new in
    let kept = all-now m.prior m.own j.limit now j.done.items j.undone.items j.is_own (subst (AllAre m.prior m.own) (sym c.self.view_is) own) in
    now-all m.prior m.own j.limit (m.state t.map) t.from.items t.to.items j.is_own
    (taken-own m.prior m.turns m.own c.take_step.result now (m.state t.map) j.done.items t.from.items j.undone.items t.to.items
    c.take_step.ensures.ok c.take_step.ensures.map c.take_step.ensures.from c.take_step.ensures.to kept)
