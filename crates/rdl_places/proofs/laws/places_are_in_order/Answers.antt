use Rattle.rdl_places.proofs.Reached.{slots_are_kept, inside_is_scope, node_has_seen}
use Rattle.rdl_places.proofs.laws.places_are_in_order.Goals as goal

pub returns-clause-slots : goal.returns-clause-slots
returns-clause-slots c = slots_are_kept

pub returns-clause-inside : goal.returns-clause-inside
returns-clause-inside c = inside_is_scope

pub returns-clause-seen : goal.returns-clause-seen
returns-clause-seen c = node_has_seen
