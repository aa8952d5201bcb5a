use Rattle.run_laws.proofs.Stepped.{all-read-back, place-reads-back}
use Rattle.run_laws.proofs.edits.histories_read_back.Goals as goal

pub returns-clause-all : goal.returns-clause-all
returns-clause-all c = λ text limit h b. all-read-back text b.start b.places limit b.actions h b.spelled b.whole b.bring b.follows

pub returns-clause-current : goal.returns-clause-current
returns-clause-current c = λ text limit h now b at. place-reads-back text b.start b.places limit b.actions h now b.spelled b.whole b.bring b.follows at
