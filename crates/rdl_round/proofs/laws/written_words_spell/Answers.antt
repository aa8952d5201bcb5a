use Rattle.rdl_round.proofs.Statements.{written-words-spell}
use Rattle.rdl_round.proofs.laws.written_words_spell.Goals as goal

pub returns : goal.returns
returns c = written-words-spell
