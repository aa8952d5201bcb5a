use Rattle.rdl_run.proofs.Agreeing.{outputs-agree}
use Rattle.rdl_run.proofs.laws.runs_agree.Goals as goal

pub returns-clause-files : goal.returns-clause-files
returns-clause-files c = λ options map script out other o p. let both = outputs-agree options map script out other o p in (both.0, both.1)

pub returns-clause-status : goal.returns-clause-status
returns-clause-status c = λ options map script out other silent o p. (outputs-agree options map script out other o p).2 silent
