use Rattle.std.proofs.Common.{◌≡◌, drop}
use Rattle.rdl_elab.specs.OwnValues.{assigned_to}
use Rattle.rdl_elab.proofs.walk.own_values.assigned_to.Given as goal

abbrev pub invariant-loop-assigned : goal.invariant-loop-assigned
invariant-loop-assigned l = assigned_to l.property l.items ≡ assigned_to l.property (drop l.assigned-index l.items)
