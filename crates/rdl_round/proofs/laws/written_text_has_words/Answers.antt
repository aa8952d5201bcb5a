use Rattle.rdl_round.proofs.Lines.{map-cut}
use Rattle.rdl_round.proofs.laws.written_text_has_words.Goals as goal

pub returns : goal.returns
returns c = map-cut
