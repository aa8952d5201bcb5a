use Rattle.rdl_round.proofs.Spelled.{spelled-spellable}
use Rattle.rdl_round.proofs.laws.spelled_is_spellable.Goals as goal

pub returns : goal.returns
returns c = spelled-spellable
