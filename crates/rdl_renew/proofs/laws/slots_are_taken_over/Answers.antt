use Rattle.rdl_renew.proofs.DeafSlots.{slots_tell_deafness, deaf_slots_are_taken_over, settled_slots_are_deaf, settled_items_stay}
use Rattle.rdl_renew.proofs.FrontSlots.{fronts_are_slots}
use Rattle.rdl_renew.proofs.TakenOver.{same_items_stay, slots_are_taken_over}
use Rattle.rdl_renew.proofs.laws.slots_are_taken_over.Goals as goal

pub returns-clause-items : goal.returns-clause-items
returns-clause-items c = same_items_stay

pub returns-clause-slots : goal.returns-clause-slots
returns-clause-slots c = slots_are_taken_over

pub returns-clause-deaf : goal.returns-clause-deaf
returns-clause-deaf c = slots_tell_deafness

pub returns-clause-over : goal.returns-clause-over
returns-clause-over c = deaf_slots_are_taken_over

pub returns-clause-settled : goal.returns-clause-settled
returns-clause-settled c = settled_slots_are_deaf

pub returns-clause-stay : goal.returns-clause-stay
returns-clause-stay c = settled_items_stay

pub returns-clause-fronts : goal.returns-clause-fronts
returns-clause-fronts c = fronts_are_slots
