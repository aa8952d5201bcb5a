use Rattle.std.proofs.Common.{subst}
use Rattle.journal_core.specs.History.{AllAre, IsAt}
use Rattle.journal_core.proofs.Stacks.{stands, now-all, turn-reverse}
use Rattle.journal_core.proofs.journal.Journal.map.Goals as goal

pub returns-clause-at : goal.returns-clause-at
returns-clause-at g c =
    let m = g.M.Invertible in
    let j = c.self.inside in
    subst (λ k. IsAt k.history (m.state j.map)) c.self.view_is (stands m.prior j.limit (m.state j.map) j.done.items j.undone.items j.is_own)

pub returns-clause-fit : goal.returns-clause-fit
returns-clause-fit g c =
    let m = g.M.Invertible in
    let j = c.self.inside in
    let now = m.state j.map in
    subst (AllAre m.prior m.fits) c.self.view_is
    (now-all m.prior m.fits j.limit now j.done.items j.undone.items j.is_own
    (turn-reverse m.prior m.fits now j.done.items c.self.invariant.done_fit, turn-reverse m.prior m.fits now j.undone.items c.self.invariant.undone_fit))
