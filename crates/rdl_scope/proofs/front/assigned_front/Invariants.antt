use Rattle.std.proofs.Common.{◌≡◌, drop}
use Rattle.std.specs.List.{fold}
use Rattle.rdl_scope.specs.Front.{front_with}
use Rattle.rdl_scope.proofs.front.assigned_front.Given as goal

abbrev pub invariant-loop-name : goal.invariant-loop-name
invariant-loop-name l = fold front_with l.number (drop l.name-index l.target) ≡ fold front_with 0 l.target
