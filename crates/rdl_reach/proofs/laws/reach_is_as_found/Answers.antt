use Rattle.rdl_reach.proofs.InReach.{is-in-reach}
use Rattle.rdl_reach.proofs.laws.reach_is_as_found.Goals as goal

pub returns : goal.returns
returns c = is-in-reach
