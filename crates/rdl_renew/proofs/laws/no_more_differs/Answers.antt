use Rattle.rdl_renew.proofs.Onward.{tells_of_one_more, alerts_grow}
use Rattle.rdl_renew.proofs.SideBySide.{no_more_differs_along, no_more_differs_before}
use Rattle.rdl_renew.proofs.laws.no_more_differs.Goals as goal

pub returns-clause-along : goal.returns-clause-along
returns-clause-along c = no_more_differs_along

pub returns-clause-before : goal.returns-clause-before
returns-clause-before c = no_more_differs_before

pub returns-clause-one_more : goal.returns-clause-one_more
returns-clause-one_more c = tells_of_one_more

pub returns-clause-grow : goal.returns-clause-grow
returns-clause-grow c = alerts_grow
