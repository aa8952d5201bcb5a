use Rattle.rdl_session.proofs.SpelledSessions.{read-session}
use Rattle.rdl_session.proofs.laws.read_sessions_read_back.Goals as goal

pub returns : goal.returns
returns c = read-session
