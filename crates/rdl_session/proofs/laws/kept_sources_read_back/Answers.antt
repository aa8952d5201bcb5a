use Rattle.rdl_session.proofs.Again.{source-again}
use Rattle.rdl_session.proofs.laws.kept_sources_read_back.Goals as goal

pub returns : goal.returns
returns c = source-again
