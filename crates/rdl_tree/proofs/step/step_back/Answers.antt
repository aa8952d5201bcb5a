use Rattle.rdl_tree.proofs.Fills.{first_put}
use Rattle.rdl_tree.proofs.step.step_back.Goals as goal

pub returns-in-Insert-clause-way : goal.returns-in-Insert-clause-way
returns-in-Insert-clause-way c = λ start all w.
    c.put_in.ensures.way start all (first_put c.in-Insert.address c.in-Insert.item c.args.steps.now.items c.args.step c.args.description.now.items start c.args.patches.now.items all c.in-Insert.is w)
