use Rattle.run_laws.proofs.GoneOn.{gone-on}
use Rattle.run_laws.proofs.Stops.{stopped}
use Rattle.run_laws.proofs.scripts.stopped_runs_go_on.Goals as goal

pub returns-clause-text : goal.returns-clause-text
returns-clause-text c = λ options again map script more out s alike later whole.
    gone-on options again map script more out later whole s.ran alike.top alike.history s.unnamed s.asked s.kept s.utf8

pub returns-clause-any_number : goal.returns-clause-any_number
returns-clause-any_number c = λ options again map bytes more scripts f alike later whole o w.
    stopped options again alike.top alike.history map scripts bytes more later whole f.unnamed f.from o w
