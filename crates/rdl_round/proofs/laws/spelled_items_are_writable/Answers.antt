use Rattle.rdl_round.proofs.Spelled as fits
use Rattle.rdl_round.proofs.MadeOfWords as made
use Rattle.rdl_round.proofs.laws.spelled_items_are_writable.Goals as goal

pub returns-clause-spellable : goal.returns-clause-spellable
returns-clause-spellable c = fits.statement-spellable

pub returns-clause-of_words : goal.returns-clause-of_words
returns-clause-of_words c = made.statement-of-words
