use Rattle.rdl_round.proofs.Back.{reads-back, faultless-reads-back}
use Rattle.rdl_round.proofs.laws.written_maps_read_back.Goals as goal

pub returns-clause-faultless : goal.returns-clause-faultless
returns-clause-faultless c = faultless-reads-back

pub returns-clause-short : goal.returns-clause-short
returns-clause-short c = reads-back
