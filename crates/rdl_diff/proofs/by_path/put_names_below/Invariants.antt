use Rattle.std.proofs.Common.{◌≡◌, ◌++◌, length}
use Rattle.rdl_diff.specs.ByPath.{texts}
use Rattle.rdl_diff.proofs.by_path.put_names_below.Given as goal

abbrev pub invariant-names : goal.invariant-names
invariant-names l = texts l.names.items ++ l.around ≡ l.initial.around

abbrev pub decreases-names : goal.decreases-names
decreases-names l = length l.around
