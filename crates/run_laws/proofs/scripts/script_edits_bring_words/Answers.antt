use Rattle.run_laws.proofs.Brought.{line-edit-good, read-good}
use Rattle.run_laws.proofs.scripts.script_edits_bring_words.Goals as goal

pub returns-clause-of_edit : goal.returns-clause-of_edit
returns-clause-of_edit c = line-edit-good

pub returns-clause-of_add : goal.returns-clause-of_add
returns-clause-of_add c = λ line path place text items is. read-good path place text items
