use Rattle.rdl_round.proofs.FewSizes.{text-fits}
use Rattle.rdl_round.proofs.laws.faultless_maps_are_short.Goals as goal

pub returns : goal.returns
returns c = text-fits
