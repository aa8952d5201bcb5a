use Rattle.run_laws.proofs.Scripted.{served}
use Rattle.run_laws.proofs.scripts.scripts_bring_words.Goals as goal

pub returns : goal.returns
returns c = served
