use Rattle.std.proofs.Common.{◌≡◌, drop}
use Rattle.rdl_scope.specs.Value.{assigned}
use Rattle.rdl_scope.proofs.values.assigned.Given as goal

abbrev pub invariant-loop-i : goal.invariant-loop-i
invariant-loop-i l = assigned l.description.items l.name l.path ≡ assigned l.description.items l.name (drop l.i l.path)
