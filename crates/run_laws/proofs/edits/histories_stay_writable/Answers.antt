use Rattle.run_laws.proofs.Stepped.{followed}
use Rattle.run_laws.proofs.edits.histories_stay_writable.Goals as goal

pub returns : goal.returns
returns c = followed
