use Rattle.rdl_renew.proofs.LoneItems.{lone_faults_are_theirs, lone_items_are_clean, lone_bodies_are_clean, settled_items_stay_clean}
use Rattle.rdl_renew.proofs.laws.bodies_are_judged_item_by_item.Goals as goal

pub returns-clause-theirs : goal.returns-clause-theirs
returns-clause-theirs c = lone_faults_are_theirs

pub returns-clause-items : goal.returns-clause-items
returns-clause-items c = lone_items_are_clean

pub returns-clause-bodies : goal.returns-clause-bodies
returns-clause-bodies c = lone_bodies_are_clean

pub returns-clause-settled : goal.returns-clause-settled
returns-clause-settled c = settled_items_stay_clean
