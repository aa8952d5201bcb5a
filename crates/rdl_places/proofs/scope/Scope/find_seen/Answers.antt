use Rattle.std.proofs.Common.{sym}
use Rattle.rdl_places.specs.HeldScope.{places_of, holding_of}
use Rattle.rdl_places.proofs.AtPlaces.{found_there}
use Rattle.rdl_places.proofs.scope.Scope.find_seen.Goals as goal

pub shared_seen-requires : goal.shared_seen-requires
shared_seen-requires c = found_there c.args.name.now (places_of c.args.self.now) (holding_of c.in-Some.holder) (sym c.in-Some.ensures.found)
