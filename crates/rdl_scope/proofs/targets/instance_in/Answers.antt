use Rattle.rdl_scope.proofs.Depths.{room}
use Rattle.rdl_scope.proofs.targets.instance_in.Goals as goal

pub inside-requires : goal.inside-requires
inside-requires c = room c.args.body.now c.args.description.now.items c.body.result c.in_ok-body.field-0 c.requires c.body.ensures c.in_ok-body.was
