use Rattle.rdl_tree.specs.Part.{with_part_at}
use Rattle.rdl_tree.proofs.Steps.{lent_some, lent_none}
use Rattle.rdl_tree.proofs.Reached.{changed_at, lent_part, no_holder_of_part, again_part}
use Rattle.rdl_tree.proofs.exchanges.swap_part.Goals as goal

pub swap_part-requires : goal.swap_part-requires
swap_part-requires c = lent_part c.args.part.now c.args.address.now _ _ _ _ c.requires c.holder.ensures c.number.ensures (lent_some _ _ _ c.body_mut.follows c.in-Some.is)

pub unreachable-requires : goal.unreachable-requires
unreachable-requires c = no_holder_of_part c.args.part.now c.args.address.now _ _ c.requires c.holder.ensures (lent_none _ _ c.body_mut.follows c.in-None.is)

pub returns-clause-changed : goal.returns-clause-changed
returns-clause-changed c = changed_at (λ n b. with_part_at n c.args.part.now b) c.args.address.now _ _ _ _ _ c.holder.ensures c.number.ensures (lent_some _ _ _ c.body_mut.follows c.in-Some.is) c.swap_part.ensures.after

pub returns-clause-inverse : goal.returns-clause-inverse
returns-clause-inverse c = again_part c.args.part.now _ c.args.address.now _ _ _ _ c.requires c.holder.ensures c.number.ensures (lent_some _ _ _ c.body_mut.follows c.in-Some.is) c.swap_part.ensures.value
