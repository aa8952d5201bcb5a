use Rattle.rdl_round.proofs.MadeOfWords.{spelled-made}
use Rattle.rdl_round.proofs.laws.spelled_is_of_words.Goals as goal

pub returns : goal.returns
returns c = spelled-made
