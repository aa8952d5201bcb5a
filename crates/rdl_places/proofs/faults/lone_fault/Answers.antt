use Rattle.std.proofs.Common.{◌∙◌}
use Rattle.rdl_places.specs.HeldScope.{places_of}
use Rattle.rdl_places.proofs.Judged.{lone_fault_is}
use Rattle.rdl_places.proofs.faults.lone_fault.Goals as goal

pub returns : goal.returns
returns c lay is = c.lone_fault_at.ensures ∙ lone_fault_is lay c.args.around (places_of c.args.scope.now) c.args.item.now is
