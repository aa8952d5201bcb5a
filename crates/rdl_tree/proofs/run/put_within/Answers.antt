use Rattle.std.proofs.Common.{rules}
use Rattle.rdl_tree.proofs.Runs.{put_within}
use Rattle.rdl_tree.proofs.run.put_within.Goals as goal

pub returns-in-Ok-clause-applied : goal.returns-in-Ok-clause-applied
returns-in-Ok-clause-applied c =
    put_within c.args.address c.args.holder.now c.args.gap.now c.insert.new.self c.number-2.result c.args.item c.new.result (c.is_in.ensures.same (search rules)) c.number-2.ensures c.in-Ok.ensures.after c.new.ensures
