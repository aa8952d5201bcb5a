use Rattle.std.proofs.Common.{◌≡◌, drop}
use Rattle.rdl_tree.specs.View.{items_of, list_of}
use Rattle.rdl_scope.specs.Value.{assigned_in}
use Rattle.rdl_scope.proofs.values.assigned_in.Given as goal

abbrev pub invariant-items : goal.invariant-items
invariant-items l = assigned_in l.description.items l.address 0 l.name l.path l.body ≡ assigned_in l.description.items l.address l.i l.name l.path (items_of (drop l.i (list_of l.body)))
