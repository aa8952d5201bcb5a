-- What is cut as a gap holds no word.
use Rattle.std.proofs.Common.{sym, ◌∙◌}
use Rattle.rdl_source.proofs.NoWord.{no_word}
use Rattle.rdl_weave.proofs.thin.are_silent.Goals as goal

pub returns-in-Some-clause-words : goal.returns-in-Some-clause-words
returns-in-Some-clause-words c = λ _. no_word _ _ c.args.gap.now _ (sym c.split_gap.ensures.parts ∙ c.in-Some.is)
