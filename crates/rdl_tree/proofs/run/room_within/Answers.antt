use Rattle.std.specs.Prelude.{vec_capacity}
use Rattle.rdl_tree.specs.Way.{held_at}
use Rattle.rdl_tree.proofs.Held.{nothing_lent_if}
use Rattle.rdl_tree.proofs.run.room_within.Goals as goal

pub returns-in-None-clause-lent : goal.returns-in-None-clause-lent
returns-in-None-clause-lent c = nothing_lent_if c.with_capacity.result (λ room. held_at c.args.holder.now (vec_capacity room)) _ _ c.in-None.ensures.keeps
