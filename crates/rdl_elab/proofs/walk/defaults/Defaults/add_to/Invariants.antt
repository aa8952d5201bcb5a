use Rattle.std.proofs.Common.{◌≡◌, ◌≤◌, length}
use Rattle.std.specs.Option.{option_or}
use Rattle.rdl_tree.specs.Properties.{row}
use Rattle.rdl_tree.specs.declared.property.Property.{Property}
use Rattle.rdl_scope.specs.Closed.{lookup}
use Rattle.rdl_elab.specs.Reaches.{value_under}
use Rattle.rdl_elab.specs.StatedValues.{shown_on}
use Rattle.rdl_elab.proofs.DefaultStacks.{nearest}
use Rattle.rdl_elab.proofs.walk.defaults.Defaults.add_to.Given as goal

abbrev pub invariant-loop-left : goal.invariant-loop-left
invariant-loop-left l = record {
  within : l.left ≤ length l.self-inside.items.items;
  so_far : (p : Property) → value_under p l.items.items ≡ option_or (value_under p l.fn.items.items) (shown_on l.kind p (lookup (row p).name (nearest l.left l.self-inside.items.items)));
}

abbrev pub decreases-loop-left : goal.decreases-loop-left
decreases-loop-left l = l.left
