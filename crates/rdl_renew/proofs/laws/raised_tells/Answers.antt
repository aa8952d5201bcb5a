use Rattle.rdl_renew.proofs.Raised.{alerts_add_up, has_all_of_it, raised_tells, raised_tells_behind, raised_tells_of_all}
use Rattle.rdl_renew.proofs.laws.raised_tells.Goals as goal

pub returns-clause-parts : goal.returns-clause-parts
returns-clause-parts c = alerts_add_up

pub returns-clause-through : goal.returns-clause-through
returns-clause-through c = has_all_of_it

pub returns-clause-changes : goal.returns-clause-changes
returns-clause-changes c = raised_tells

pub returns-clause-behind : goal.returns-clause-behind
returns-clause-behind c = raised_tells_behind

pub returns-clause-all : goal.returns-clause-all
returns-clause-all c = raised_tells_of_all
