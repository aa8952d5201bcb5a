use Rattle.std.proofs.Common.{◌++◌, [], ◌∷◌}
use Rattle.std.specs.Prelude.{vec_capacity}
use Rattle.rdl_tree.specs.Address.{holder_of}
use Rattle.rdl_tree.specs.Way.{held_at}
use Rattle.rdl_tree.specs.declared.patch.Patch.TheVariants.{Delete}
use Rattle.rdl_tree.proofs.Steps.{lent_some}
use Rattle.rdl_tree.proofs.Fills.{filled_at}
use Rattle.rdl_tree.proofs.step.put_in.Goals as goal

pub returns-clause-way : goal.returns-clause-way
returns-clause-way c =
    filled_at c.args.address c.holder.result c.args.item (held_at (holder_of c.args.address) (vec_capacity c.args.room)) c.args.steps.now.items c.fill.new.steps.items (c.args.patches.now.items ++ Delete c.args.address ∷ []) c.fill.new.patches.items
    c.args.description.now.items c.in-Some.body.now c.fill.new.body c.holder.ensures (lent_some _ _ _ c.body_mut.follows c.in-Some.is) c.fill.ensures.way
