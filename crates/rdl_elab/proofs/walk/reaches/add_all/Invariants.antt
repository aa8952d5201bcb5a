use Rattle.std.proofs.Common.{◌≡◌, ◌++◌, take}
use Rattle.rdl_elab.proofs.walk.reaches.add_all.Given as goal

abbrev pub invariant-loop-assignment : goal.invariant-loop-assignment
invariant-loop-assignment l = l.list.items ≡ l.initial.list.items ++ take l.assignment-index l.more
