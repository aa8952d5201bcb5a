use Rattle.rdl_text.proofs.Bounds.{words_are_well_spelled}
use Rattle.rdl_text.proofs.laws.words_are_well_spelled.Goals as goal

pub returns : goal.returns
returns c = words_are_well_spelled
