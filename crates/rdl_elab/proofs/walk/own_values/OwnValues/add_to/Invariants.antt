use Rattle.std.proofs.Common.{◌≡◌, take}
use Rattle.std.specs.Option.{option_or}
use Rattle.rdl_tree.specs.declared.property.Property.{Property}
use Rattle.rdl_elab.specs.OwnValues.{assigned_to}
use Rattle.rdl_elab.specs.Reaches.{value_under}
use Rattle.rdl_elab.specs.StatedValues.{shown_on}
use Rattle.rdl_elab.proofs.walk.own_values.OwnValues.add_to.Given as goal

abbrev pub invariant-loop-assigned : goal.invariant-loop-assigned
invariant-loop-assigned l = (p : Property) → value_under p l.items.items ≡ option_or (value_under p l.fn.items.items) (shown_on l.kind p (assigned_to p (take l.assigned-index l.assigned-items)))
