use Rattle.rdl_round.proofs.Parsed.{written-parses, faultless-parses}
use Rattle.rdl_round.proofs.laws.written_maps_are_parsed.Goals as goal

pub returns-clause-faultless : goal.returns-clause-faultless
returns-clause-faultless c = faultless-parses

pub returns-clause-short : goal.returns-clause-short
returns-clause-short c = written-parses
