use Rattle.std.proofs.Common.{◌∙◌}
use Rattle.rdl_places.specs.HeldScope.{place_of, outer_places}
use Rattle.rdl_places.proofs.Judged.{fault_is}
use Rattle.rdl_places.proofs.faults.item_fault.Goals as goal

pub returns : goal.returns
returns c lay is =
    let s = c.args.scope.now in
    c.fault_at.ensures ∙ fault_is lay c.args.around (place_of s) (outer_places s.outer) c.args.item.now is
