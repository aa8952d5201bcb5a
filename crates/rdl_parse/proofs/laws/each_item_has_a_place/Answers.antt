use Rattle.rdl_parse.proofs.Placed.{start-found}
use Rattle.rdl_parse.proofs.laws.each_item_has_a_place.Goals as goal

pub returns : goal.returns
returns c = start-found
