use Rattle.std.proofs.Common.{◌≡◌, take}
use Rattle.std.specs.Option.{option_or}
use Rattle.rdl_tree.specs.Properties.{row}
use Rattle.rdl_tree.specs.declared.property.Property.{Property}
use Rattle.rdl_elab.specs.Reaches.{reached, value_under}
use Rattle.rdl_elab.specs.StatedValues.{shown_on}
use Rattle.rdl_elab.proofs.walk.reaches.add_reached.Given as goal

abbrev pub invariant-loop-assignment : goal.invariant-loop-assignment
invariant-loop-assignment l = (p : Property) → value_under p l.items.items ≡ option_or (value_under p l.fn.items.items) (shown_on l.kind p (reached (row p).name (take l.assignment-index l.reaching)))
