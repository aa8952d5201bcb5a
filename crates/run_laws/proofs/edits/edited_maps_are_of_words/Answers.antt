use Rattle.run_laws.proofs.Stepped.{step-of-words}
use Rattle.run_laws.proofs.edits.edited_maps_are_of_words.Goals as goal

pub returns : goal.returns
returns c = step-of-words
