use Rattle.std.proofs.Common.{◌≡◌, ◌∷◌, take}
use Rattle.rdl_scope.specs.KeySpot.{texts}
use Rattle.rdl_scope.proofs.keys.names_of.Given as goal

abbrev pub invariant-loop-part : goal.invariant-loop-part
invariant-loop-part l = texts l.names.items ≡ l.fn.key.name.now ∷ take l.part-index l.target
