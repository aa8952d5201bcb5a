use Rattle.std.proofs.Common.{◌≤◌, length, take, sum_by}
use Rattle.rdl_tree.specs.Weight.{capped}
use Rattle.rdl_scope.proofs.size.most_bytes.Given as goal

abbrev pub invariant-names : goal.invariant-names
invariant-names l = capped (sum_by length (take l.name-index l.names)) ≤ l.most
