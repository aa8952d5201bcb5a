use Rattle.std.proofs.Common.{◌≡◌, ◌+◌, ◌-◌, ◌^◌, min, refl, ◌∙◌, arith}
use Rattle.rdl_renew.specs.declared.along.Along.{Along}
use Rattle.rdl_renew.proofs.Passed.{same_passed}
use Rattle.rdl_renew.proofs.along.Along.pass.Goals as goal

pub returns : goal.returns
returns c = λ ps behind i passed few fits.
    let a = c.args.self.now in
    let count = passed.count in
    let b : Along = record { pieces = a.pieces; items = c.saturating_add-self.result; same = a.same } in
    same_passed ps behind a b i c.args.count passed few refl (c.saturating_add-self.ensures ∙ (let e : min (a.items + c.args.count) (2 ^ 64 - 1) ≡ a.items + c.args.count = omega (arith, count, fits) in e)) refl
