use Rattle.std.proofs.Common.{arith}
use Rattle.rdl_origin.proofs.Order.{numbered-in_order, all-in_order}
use Rattle.rdl_origin.proofs.laws.unmoved_items_stand_in_order.Goals as goal

pub returns-clause-first : goal.returns-clause-first
returns-clause-first c = λ last h. numbered-in_order 0 last (omega (arith, h))

pub returns-clause-then : goal.returns-clause-then
returns-clause-then c = λ ps origins h. all-in_order ps origins h
