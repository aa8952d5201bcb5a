use Rattle.rdl_round.proofs.Spelled.{spelled-spellable}
use Rattle.rdl_round.proofs.Statements.{written-words-spell}
use Rattle.rdl_round.proofs.laws.read_words_spell_again.Goals as goal

pub returns : goal.returns
returns c = λ ws d at s. written-words-spell d (spelled-spellable ws d at s)
