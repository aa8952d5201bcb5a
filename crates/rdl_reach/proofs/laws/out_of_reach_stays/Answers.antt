use Rattle.rdl_reach.proofs.Made.{out_of_reach_stays}
use Rattle.rdl_reach.proofs.laws.out_of_reach_stays.Goals as goal

pub returns : goal.returns
returns c = out_of_reach_stays
