use Rattle.std.proofs.lemmas.Bool.{and_parts}
use Rattle.rdl_tree.specs.Edit.{shift_item}
use Rattle.rdl_tree.proofs.Steps.{lent_some}
use Rattle.rdl_tree.proofs.Reached.{changed_at, lent_within}
use Rattle.rdl_tree.proofs.step.shift.Goals as goal

pub shift-requires-clause-from_an_item : goal.shift-requires-clause-from_an_item
shift-requires-clause-from_an_item c = lent_within c.args.address _ _ _ _ (and_parts _ _ c.requires).0 c.holder-holder.ensures c.number-number.ensures (lent_some _ _ _ c.body_mut.follows c.in-Some.is)

pub returns-clause-changed : goal.returns-clause-changed
returns-clause-changed c = changed_at (λ n b. shift_item n c.args.to b) c.args.address _ _ _ _ _ c.holder-holder.ensures c.number-number.ensures (lent_some _ _ _ c.body_mut.follows c.in-Some.is) c.shift.ensures
