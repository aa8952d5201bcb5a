use Rattle.std.proofs.Common.{◌≡◌, take, map}
use Rattle.rdl_parse.specs.Places.{place_of}
use Rattle.rdl_parse.proofs.places.Places.new.Given as goal

abbrev pub invariant-spots : goal.invariant-spots
invariant-spots l = l.places.items ≡ map (place_of l.words) (take l.spot-index l.spots)
