use Rattle.std.proofs.Common.{refl}
use Rattle.std.specs.Prelude.{vec_capacity}
use Rattle.rdl_tree.specs.Way.{held_behind}
use Rattle.rdl_tree.proofs.Held.{nothing_lent_if}
use Rattle.rdl_tree.proofs.run.apply_within.Goals as goal

pub returns-in-Insert-clause-lent : goal.returns-in-Insert-clause-lent
returns-in-Insert-clause-lent c = nothing_lent_if c.put_within.result (λ step. held_behind step.back (vec_capacity step.room)) _ _ refl
