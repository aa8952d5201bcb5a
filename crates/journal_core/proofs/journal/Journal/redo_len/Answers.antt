use Rattle.std.proofs.Common.{rules, ◌≡◌, ◌+◌, ◌∷◌, ◌++◌, length, subst, arith}
use mathlib.Core.List.{reverse}
use Rattle.journal_core.specs.Along.{states_along}
use Rattle.journal_core.proofs.Stacks.{length-states-all}
use Rattle.journal_core.proofs.journal.Journal.redo_len.Goals as goal

pub returns-clause-place : goal.returns-clause-place
returns-clause-place g c =
    let m = g.M.Invertible in
    let j = c.self.inside in
    let len : c.len.result ≡ length j.undone.items = search rules in
    subst (λ k. k.history.place + c.len.result + 1 ≡ length k.history.states) c.self.view_is
    (let e : length j.done.items + c.len.result + 1 ≡ length (states_along m.prior (m.state j.map) j.done.items ++ m.state j.map ∷ reverse (states_along m.prior (m.state j.map) j.undone.items)) =
    omega (arith, len, length-states-all m.prior (m.state j.map) j.done.items j.undone.items) in e)
