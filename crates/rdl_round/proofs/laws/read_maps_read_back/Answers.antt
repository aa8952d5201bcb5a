use Rattle.rdl_round.proofs.Back.{again, faultless-again}
use Rattle.rdl_round.proofs.laws.read_maps_read_back.Goals as goal

pub returns-clause-faultless : goal.returns-clause-faultless
returns-clause-faultless c = faultless-again

pub returns-clause-short : goal.returns-clause-short
returns-clause-short c = again
