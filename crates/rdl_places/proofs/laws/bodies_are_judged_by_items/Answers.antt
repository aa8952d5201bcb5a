use Rattle.rdl_places.proofs.CleanItems.{bodies_are_clean_by_items, items_are_clean_in_bodies}
use Rattle.rdl_places.proofs.laws.bodies_are_judged_by_items.Goals as goal

pub returns-clause-bodies : goal.returns-clause-bodies
returns-clause-bodies c = bodies_are_clean_by_items

pub returns-clause-items : goal.returns-clause-items
returns-clause-items c = items_are_clean_in_bodies
