use Rattle.rdl_seen.proofs.OneByOne.{are_walked_in_turn, slots_are_of_items, deaf_slots_stay}
use Rattle.rdl_seen.proofs.laws.slots_are_of_items.Goals as goal

pub returns-clause-turn : goal.returns-clause-turn
returns-clause-turn c = are_walked_in_turn

pub returns-clause-items : goal.returns-clause-items
returns-clause-items c = slots_are_of_items

pub returns-clause-stay : goal.returns-clause-stay
returns-clause-stay c = deaf_slots_stay
