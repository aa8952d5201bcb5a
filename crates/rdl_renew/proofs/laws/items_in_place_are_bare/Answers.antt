use Rattle.rdl_renew.proofs.InPlace.{in_place_are_bare}
use Rattle.rdl_renew.proofs.laws.items_in_place_are_bare.Goals as goal

pub returns : goal.returns
returns c = in_place_are_bare
