use Rattle.rdl_source.proofs.Silence.{floats_silent}
use Rattle.rdl_source.proofs.laws.floats_hold_no_word.Goals as goal

pub returns : goal.returns
returns c = λ source ws ps laid u h. floats_silent source ws ps laid u h
