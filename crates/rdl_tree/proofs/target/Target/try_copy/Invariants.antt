use Rattle.std.proofs.Common.{◌≡◌, take}
use Rattle.rdl_tree.proofs.target.Target.try_copy.Given as goal

abbrev pub invariant-loop-name : goal.invariant-loop-name
invariant-loop-name l = l.names.items ≡ take l.name-index l.name-items
