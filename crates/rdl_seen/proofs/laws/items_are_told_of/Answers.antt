use Rattle.rdl_seen.proofs.Passing.{stands_behind_item, items_come_and_go, items_stay, items_are_passed_over}
use Rattle.rdl_seen.proofs.laws.items_are_told_of.Goals as goal

pub returns-clause-behind : goal.returns-clause-behind
returns-clause-behind c = stands_behind_item

pub returns-clause-come_and_go : goal.returns-clause-come_and_go
returns-clause-come_and_go c = items_come_and_go

pub returns-clause-stay : goal.returns-clause-stay
returns-clause-stay c = items_stay

pub returns-clause-passed : goal.returns-clause-passed
returns-clause-passed c = items_are_passed_over
