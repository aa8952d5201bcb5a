use Rattle.rdl_tree.specs.Edit.{insert_item}
use Rattle.rdl_tree.proofs.Steps.{lent_some}
use Rattle.rdl_tree.proofs.Reached.{changed_at, unchanged_at}
use Rattle.rdl_tree.proofs.step.insert.Goals as goal

pub returns-in-Ok-clause-applied : goal.returns-in-Ok-clause-applied
returns-in-Ok-clause-applied c = changed_at (λ n b. insert_item n c.args.item b) c.args.address _ _ _ _ _ c.holder.ensures c.number.ensures (lent_some _ _ _ c.body_mut.follows c.in-Some.is) c.in-Ok.ensures.after

pub returns-in-Err-clause-stays : goal.returns-in-Err-clause-stays
returns-in-Err-clause-stays c = unchanged_at _ _ _ _ (lent_some _ _ _ c.body_mut.follows c.in-Some.is) c.in-Err.ensures.after
