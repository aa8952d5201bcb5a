use Rattle.run_laws.proofs.Scripted.{run-reads-back, place-of-run-reads-back, output-reads-back, output-short}
use Rattle.run_laws.proofs.scripts.runs_read_back.Goals as goal

pub returns-clause-all : goal.returns-clause-all
returns-clause-all c = λ option limit bytes script last l. run-reads-back option limit bytes l.first script l.replies l.refuses last l.opens l.serves

pub returns-clause-current : goal.returns-clause-current
returns-clause-current c = λ option limit bytes script last now l at. place-of-run-reads-back option limit bytes l.first script l.replies l.refuses last now l.opens l.serves at

pub returns-clause-written : goal.returns-clause-written
returns-clause-written c = output-reads-back

pub returns-clause-short : goal.returns-clause-short
returns-clause-short c = output-short
