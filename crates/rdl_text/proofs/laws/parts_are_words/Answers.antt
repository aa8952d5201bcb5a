use Rattle.rdl_text.proofs.Joining.{name_is_word, quoted_is_word, mark_is_word}
use Rattle.rdl_text.proofs.laws.parts_are_words.Goals as goal

pub returns-clause-name : goal.returns-clause-name
returns-clause-name c = name_is_word

pub returns-clause-quoted : goal.returns-clause-quoted
returns-clause-quoted c = quoted_is_word

pub returns-clause-mark : goal.returns-clause-mark
returns-clause-mark c = mark_is_word
