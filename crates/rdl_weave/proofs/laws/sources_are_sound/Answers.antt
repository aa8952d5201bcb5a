use Rattle.rdl_weave.proofs.Fitting.{sources_sound}
use Rattle.rdl_weave.proofs.laws.sources_are_sound.Goals as goal

pub returns : goal.returns
returns c = λ source canonical l t last s u w r e v o. sources_sound source canonical l t last s u w r e v o
