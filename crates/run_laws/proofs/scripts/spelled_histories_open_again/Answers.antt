use Rattle.run_laws.proofs.OpenedAgain.{opened-again}
use Rattle.run_laws.proofs.scripts.spelled_histories_open_again.Goals as goal

pub returns : goal.returns
returns c = λ option bytes now h good same at utf8 spelled limit. opened-again option limit bytes now h good same at utf8 spelled
