use Rattle.std.proofs.Common.{◌≡◌, ◌-◌}
use Rattle.rdl_parse.specs.Places.{from_item}
use Rattle.rdl_parse.proofs.places.from_item.Given as goal

abbrev pub invariant-siblings : goal.invariant-siblings
invariant-siblings l = from_item (l.number - l.counter) l.rest ≡ from_item l.number l.places
