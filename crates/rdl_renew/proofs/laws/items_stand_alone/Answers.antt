use Rattle.rdl_renew.proofs.Alone.{clean_stand_alone, clashes_are_turned, stands_alone_by_items, none_clash, stands_alone_still}
use Rattle.rdl_renew.proofs.laws.items_stand_alone.Goals as goal

pub returns-clause-clean : goal.returns-clause-clean
returns-clause-clean c = clean_stand_alone

pub returns-clause-turned : goal.returns-clause-turned
returns-clause-turned c = clashes_are_turned

pub returns-clause-items : goal.returns-clause-items
returns-clause-items c = stands_alone_by_items

pub returns-clause-none : goal.returns-clause-none
returns-clause-none c = none_clash

pub returns-clause-still : goal.returns-clause-still
returns-clause-still c = stands_alone_still
