use Rattle.rdl_elab.proofs.Powers.{alignment-power}
use Rattle.rdl_elab.proofs.laws.alignments_are_powers.Goals as goal

pub returns : goal.returns
returns c = alignment-power
