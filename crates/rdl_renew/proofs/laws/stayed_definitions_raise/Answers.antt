use Rattle.rdl_renew.proofs.StayedTypes.{stayed_definitions_raise}
use Rattle.rdl_renew.proofs.laws.stayed_definitions_raise.Goals as goal

pub returns : goal.returns
returns c = stayed_definitions_raise
