use Rattle.rdl_session.proofs.SpelledSessions.{map-writable, steps-writable}
use Rattle.rdl_session.proofs.laws.spelled_steps_are_writable.Goals as goal

pub returns-clause-map : goal.returns-clause-map
returns-clause-map c = map-writable

pub returns-clause-steps : goal.returns-clause-steps
returns-clause-steps c = steps-writable
