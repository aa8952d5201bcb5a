use Rattle.rdl_round.proofs.Parsed.{parses-again, faultless-parses-again}
use Rattle.rdl_round.proofs.laws.read_maps_are_parsed_again.Goals as goal

pub returns-clause-faultless : goal.returns-clause-faultless
returns-clause-faultless c = faultless-parses-again

pub returns-clause-short : goal.returns-clause-short
returns-clause-short c = parses-again
