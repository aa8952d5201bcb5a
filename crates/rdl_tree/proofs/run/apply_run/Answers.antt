use Rattle.rdl_tree.proofs.Runs.{stays_within, held_open}
use Rattle.rdl_tree.proofs.run.apply_run.Goals as goal

pub returns-in-Ok-clause-way : goal.returns-in-Ok-clause-way
returns-in-Ok-clause-way c =
    held_open c.args.holder.now c.args.steps.now.items c.advance_within.new.steps.items c.args.patches.now.items c.advance_within.new.patches.items c.args.body.now c.in-Ok.gap c.advance_within.new.gap c.close.new.body
    c.in-Ok.ensures.opened c.close.ensures c.advance_within.ensures.way

pub returns-in-Err-clause-way : goal.returns-in-Err-clause-way
returns-in-Err-clause-way c = stays_within c.args.holder.now c.args.steps.now.items c.args.patches.now.items c.args.body.now c.open.new.body c.in-Err.ensures.stays
