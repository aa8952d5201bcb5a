use Rattle.run_laws.proofs.SavedRuns.{saved-session, saved-opens, session-spelled, session-opens}
use Rattle.run_laws.proofs.Stops.{goes-on-own}
use Rattle.run_laws.proofs.scripts.saved_sessions_read_back.Goals as goal

pub returns-clause-text_spelled : goal.returns-clause-text_spelled
returns-clause-text_spelled c = λ options map script out s. saved-session options map script out s.ran s.unnamed s.asked s.kept s.utf8

pub returns-clause-text_opened : goal.returns-clause-text_opened
returns-clause-text_opened c = λ options map script out s. saved-opens options map script out s.ran s.unnamed s.asked s.kept s.utf8

pub returns-clause-spelled : goal.returns-clause-spelled
returns-clause-spelled c = λ options map bytes script scripts out s.
    session-spelled options bytes script out (goes-on-own options map scripts bytes s.from.unnamed s.from.from) s.wrote s.ran s.is_run s.some

pub returns-clause-opened : goal.returns-clause-opened
returns-clause-opened c = λ options map bytes script scripts out s.
    session-opens options bytes script out (goes-on-own options map scripts bytes s.from.unnamed s.from.from) s.wrote s.ran s.is_run s.some
