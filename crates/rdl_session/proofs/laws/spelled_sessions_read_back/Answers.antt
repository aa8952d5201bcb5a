use Rattle.rdl_session.proofs.SpelledSessions.{spelled-session}
use Rattle.rdl_session.proofs.laws.spelled_sessions_read_back.Goals as goal

pub returns : goal.returns
returns c = spelled-session
