use Rattle.rdl_round.proofs.Bodies.{added-spellable, added-of-words}
use Rattle.rdl_round.proofs.laws.added_items_are_writable.Goals as goal

pub returns-clause-spellable : goal.returns-clause-spellable
returns-clause-spellable c = added-spellable

pub returns-clause-of_words : goal.returns-clause-of_words
returns-clause-of_words c = added-of-words
