use Rattle.rdl_session.proofs.Meant.{one-session}
use Rattle.rdl_session.proofs.laws.one_session.Goals as goal

pub returns : goal.returns
returns c = one-session
