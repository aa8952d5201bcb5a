use Rattle.journal_core.proofs.Runs.{on-again}
use Rattle.journal_core.proofs.laws.redos_lead_on.Goals as goal

pub returns : goal.returns
returns g c = λ h states i. on-again h states i
