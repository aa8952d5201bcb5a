use Rattle.std.proofs.Common.{◌≡◌, length, take, sum_by}
use Rattle.rdl_tree.specs.Weight.{capped}
use Rattle.rdl_tree.proofs.target.Target.weight.Given as goal

abbrev pub invariant-loop-name : goal.invariant-loop-name
invariant-loop-name l = l.sum ≡ capped (sum_by length (take l.name-index l.name-items))
