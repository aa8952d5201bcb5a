use Rattle.run_laws.proofs.SameOption.{opened-options, served-options}
use Rattle.run_laws.proofs.scripts.options_stay.Goals as goal

pub returns-clause-opened : goal.returns-clause-opened
returns-clause-opened c = opened-options

pub returns-clause-served : goal.returns-clause-served
returns-clause-served c = served-options
