use Rattle.std.proofs.Common.{sym, subst, ◌∙◌}
use Rattle.rdl_elab.specs.KeptTargets.{kept_target}
use Rattle.rdl_elab.specs.OwnValues.{IsFirstDynamic}
use Rattle.rdl_elab.proofs.OwnValues.{no-dynamic}
use Rattle.rdl_elab.proofs.walk.reaches.assignments_if.Goals as goal

pub assignments-requires : goal.assignments-requires
assignments-requires c =
    let is = subst (λ o. IsFirstDynamic o c.args.body.now) c.in-Some.is c.requires in
    is.0

pub returns-in-None : goal.returns-in-None
returns-in-None c =
    c.new.ensures.items ∙ sym (no-dynamic (kept_target c.args.components.now c.args.parts.now.items) 0 c.args.body.now (subst (λ o. IsFirstDynamic o c.args.body.now) c.in-None.is c.requires))
