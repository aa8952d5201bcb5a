use Rattle.rdl_session.proofs.Saved.{session-spells}
use Rattle.rdl_session.proofs.laws.written_sessions_read_back.Goals as goal

pub returns : goal.returns
returns c = λ d undo redo h u r utf8 short. session-spells d undo redo h u r (record { utf8 = utf8; short = short })
