use Rattle.std.proofs.Common.{rules, ◌≡◌, [], ◌∷◌, ◌++◌, sym, subst}
use Rattle.journal_core.specs.Along.{FitAlong}
use Rattle.journal_core.proofs.Stacks.{FitAlong-last, FitAlong-push}
use Rattle.journal_core.proofs.journal.take_step.Goals as goal

pub revert-requires : goal.revert-requires
revert-requires g c =
    let m = g.M.Invertible in
    let items : c.args.from.now.items ≡ c.pop.new.self.items ++ c.unwrap-back.result ∷ [] = search rules in
    (FitAlong-last m.prior m.fits _ _ _ (subst (FitAlong m.prior m.fits (m.state c.args.map.now)) items c.requires.from_fit)).0

pub returns-in-Ok-clause-from_fits : goal.returns-in-Ok-clause-from_fits
returns-in-Ok-clause-from_fits g c =
    let m = g.M.Invertible in
    let items : c.args.from.now.items ≡ c.pop.new.self.items ++ c.unwrap-back.result ∷ [] = search rules in
    let rest = (FitAlong-last m.prior m.fits _ _ _ (subst (FitAlong m.prior m.fits (m.state c.args.map.now)) items c.requires.from_fit)).1 in
    subst (λ s. FitAlong m.prior m.fits s c.pop.new.self.items) (sym c.in-Ok.ensures.leads) rest

pub returns-in-Ok-clause-to_fits : goal.returns-in-Ok-clause-to_fits
returns-in-Ok-clause-to_fits g c =
    let m = g.M.Invertible in
    let items : c.push.new.self.items ≡ c.args.to.now.items ++ c.in-Ok.forward ∷ [] = search rules in
    subst (FitAlong m.prior m.fits (m.state c.revert.new.self)) (sym items)
    (FitAlong-push m.prior m.fits _ _ _ c.in-Ok.ensures.fits (subst (λ s. FitAlong m.prior m.fits s c.args.to.now.items) (sym c.in-Ok.ensures.back) c.requires.to_fit))

pub returns-in-Ok-clause-from_own : goal.returns-in-Ok-clause-from_own
returns-in-Ok-clause-from_own g c = λ is_own.
    let m = g.M.Invertible in
    let items : c.args.from.now.items ≡ c.pop.new.self.items ++ c.unwrap-back.result ∷ [] = search rules in
    let rest = (FitAlong-last m.prior m.own _ _ _ (subst (FitAlong m.prior m.own (m.state c.args.map.now)) items is_own)).1 in
    subst (λ s. FitAlong m.prior m.own s c.pop.new.self.items) (sym c.in-Ok.ensures.leads) rest

pub returns-in-Ok-clause-to_own : goal.returns-in-Ok-clause-to_own
returns-in-Ok-clause-to_own g c = λ from_own to_own.
    let m = g.M.Invertible in
    let taken : c.args.from.now.items ≡ c.pop.new.self.items ++ c.unwrap-back.result ∷ [] = search rules in
    let back = (FitAlong-last m.prior m.own _ _ _ (subst (FitAlong m.prior m.own (m.state c.args.map.now)) taken from_own)).0 in
    let items : c.push.new.self.items ≡ c.args.to.now.items ++ c.in-Ok.forward ∷ [] = search rules in
    subst (FitAlong m.prior m.own (m.state c.revert.new.self)) (sym items)
    (FitAlong-push m.prior m.own _ _ _ (c.in-Ok.ensures.own back) (subst (λ s. FitAlong m.prior m.own s c.args.to.now.items) (sym c.in-Ok.ensures.back) to_own))
