use Rattle.std.proofs.Common.{◌≡◌, true, false, subst, sym}
use Rattle.journal_core.specs.Along.{FitAlong}
use Rattle.journal_core.proofs.Ways.{fit-reverse, handed-back, resumed-is}
use Rattle.journal_core.proofs.journal.Journal.resume.Goals as goal

pub invariant_of-result : goal.invariant_of-result
invariant_of-result g c =
    let m = g.M.Invertible in
    let now = m.state c.args.map in
    record {
      done_fit = subst (FitAlong m.prior m.fits now) (sym c.reversed.ensures) (fit-reverse m.prior m.fits now c.args.undo.items c.requires.undo_fits);
      undone_fit = subst (FitAlong m.prior m.fits now) (sym c.reversed-2.ensures) (fit-reverse m.prior m.fits now c.args.redo.items c.requires.redo_fits);
      done_own = λ is_own. absurd {A = FitAlong m.prior m.own now _} (let w : false ≡ true = is_own in cc);
      undone_own = λ is_own. absurd {A = FitAlong m.prior m.own now _} (let w : false ≡ true = is_own in cc);
    }

pub returns-clause-history : goal.returns-clause-history
returns-clause-history g c = resumed-is g.M.Invertible.prior (g.M.Invertible.state c.args.map) c.args.limit c.args.undo.items c.args.redo.items _ _ c.reversed.ensures c.reversed-2.ensures

pub returns-clause-undo : goal.returns-clause-undo
returns-clause-undo g c = handed-back c.args.undo.items _ c.reversed.ensures

pub returns-clause-redo : goal.returns-clause-redo
returns-clause-redo g c = handed-back c.args.redo.items _ c.reversed-2.ensures
