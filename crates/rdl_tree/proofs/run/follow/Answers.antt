use Rattle.rdl_tree.proofs.Steps.{lent_some}
use Rattle.rdl_tree.proofs.run.follow.Goals as goal

pub returns-in-Some-body_mut-clause-way : goal.returns-in-Some-body_mut-clause-way
returns-in-Some-body_mut-clause-way c = c.apply_run.ensures.way c.args.description.now.items (lent_some _ _ _ c.body_mut.follows c.in-Some-body_mut.is)
