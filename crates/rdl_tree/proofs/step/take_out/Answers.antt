use Rattle.rdl_tree.specs.Edit.{remove_item}
use Rattle.rdl_tree.proofs.Steps.{lent_some, lent_none}
use Rattle.rdl_tree.proofs.Reached.{changed_at, lent_within, no_holder, again_there}
use Rattle.rdl_tree.proofs.step.take_out.Goals as goal

pub remove-item-requires : goal.remove-item-requires
remove-item-requires c = lent_within c.args.address _ _ _ _ c.requires c.holder.ensures c.number.ensures (lent_some _ _ _ c.body_mut.follows c.in-Some.is)

pub unreachable-requires : goal.unreachable-requires
unreachable-requires c = no_holder c.args.address _ _ c.requires c.holder.ensures (lent_none _ _ c.body_mut.follows c.in-None.is)

pub returns-clause-changed : goal.returns-clause-changed
returns-clause-changed c = changed_at remove_item c.args.address _ _ _ _ _ c.holder.ensures c.number.ensures (lent_some _ _ _ c.body_mut.follows c.in-Some.is) c.remove-item.ensures.after

pub returns-clause-inverse : goal.returns-clause-inverse
returns-clause-inverse c = again_there c.args.address _ _ _ _ _ c.requires c.holder.ensures c.number.ensures (lent_some _ _ _ c.body_mut.follows c.in-Some.is) c.remove-item.ensures.value
