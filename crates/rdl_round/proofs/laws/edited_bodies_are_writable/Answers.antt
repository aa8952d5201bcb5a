use Rattle.rdl_round.proofs.Bodies.{body-spellable, body-of-words}
use Rattle.rdl_round.proofs.laws.edited_bodies_are_writable.Goals as goal

pub returns-clause-spellable : goal.returns-clause-spellable
returns-clause-spellable c = body-spellable

pub returns-clause-of_words : goal.returns-clause-of_words
returns-clause-of_words c = body-of-words
