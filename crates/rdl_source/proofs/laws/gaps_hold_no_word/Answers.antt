use Rattle.rdl_source.proofs.NoWord.{no_word}
use Rattle.rdl_source.proofs.laws.gaps_hold_no_word.Goals as goal

pub returns : goal.returns
returns c = no_word
