use Rattle.rdl_reach.proofs.Steps.{all_are_placed_once}
use Rattle.rdl_reach.proofs.laws.all_are_placed_once.Goals as goal

pub returns : goal.returns
returns c = all_are_placed_once
