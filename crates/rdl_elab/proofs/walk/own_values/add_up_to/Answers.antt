use Rattle.std.proofs.Common.{subst}
use Rattle.rdl_elab.specs.OwnValues.{AreStatedBefore}
use Rattle.rdl_elab.proofs.walk.own_values.add_up_to.Goals as goal

pub returns-then-from-to : goal.returns-then-from-to
returns-then-from-to c = subst (λ n. AreStatedBefore n c.args.items.now.items c.args.first_dynamic.now c.args.body.now) c.if-from-to.true c.requires.before
