use Rattle.rdl_scope.specs.Scopes.{along_place}
use Rattle.rdl_scope.proofs.Depths.{room}
use Rattle.rdl_scope.proofs.faults.name_kind.Goals as goal

pub kind_of_item-requires-clause-place : goal.kind_of_item-requires-clause-place
kind_of_item-requires-clause-place c = room (along_place c.args.at.now c.args.place) c.args.description.now.items c.body_of_place.result c.in_ok-body.body c.requires.nesting c.body_of_place.ensures c.in_ok-body.was
