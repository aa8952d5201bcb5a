use Rattle.std.proofs.Common.{◌≤◌, length}
use Rattle.rdl_tree.specs.View.{list_of}
use Rattle.rdl_elab.specs.OwnValues.{AreStatedBefore}
use Rattle.rdl_elab.proofs.walk.own_values.OwnValues.of.Given as goal

abbrev pub invariant-loop-part : goal.invariant-loop-part
invariant-loop-part l = record { within : l.next ≤ length (list_of l.body); stated : AreStatedBefore l.next l.items.items l.first_dynamic l.body }
