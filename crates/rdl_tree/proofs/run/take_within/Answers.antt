use Rattle.std.proofs.Common.{refl, rules}
use Rattle.rdl_tree.proofs.Runs.{taken_within}
use Rattle.rdl_tree.proofs.Held.{lent_to}
use Rattle.rdl_tree.proofs.run.take_within.Goals as goal

pub returns-in-Ok-clause-applied : goal.returns-in-Ok-clause-applied
returns-in-Ok-clause-applied c =
    taken_within c.args.address c.args.holder.now c.args.gap.now c.remove-item.new.self c.number-in-Ok.result c.remove-item.result _
    (c.is_in.ensures.same (search rules)) c.number-in-Ok.ensures c.remove-item.ensures.after c.remove-item.ensures.value refl (search rules)

pub returns-in-Ok-clause-lent : goal.returns-in-Ok-clause-lent
returns-in-Ok-clause-lent c = lent_to c.args.address c.args.holder.now c.remove-item.result _ _ _ (c.is_in.ensures.same (search rules)) c.in-Ok.ensures.lent
