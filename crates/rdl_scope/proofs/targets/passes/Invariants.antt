use Rattle.std.proofs.Common.{◌≡◌, drop}
use Rattle.rdl_scope.specs.Target.{passes}
use Rattle.rdl_scope.proofs.Passing.{after}
use Rattle.rdl_scope.proofs.targets.passes.Given as goal

abbrev pub invariant-loop-i : goal.invariant-loop-i
invariant-loop-i l = passes l.description.items l.fn.body l.fn.n l.names ≡ after l.path.items (passes l.description.items l.here l.before (drop l.i l.names))
