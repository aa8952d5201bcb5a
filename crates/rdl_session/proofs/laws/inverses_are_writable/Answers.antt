use Rattle.rdl_session.proofs.Inverted.{inverses-writable, image-writable}
use Rattle.rdl_session.proofs.laws.inverses_are_writable.Goals as goal

pub returns-clause-back : goal.returns-clause-back
returns-clause-back c = inverses-writable

pub returns-clause-place : goal.returns-clause-place
returns-clause-place c = image-writable
