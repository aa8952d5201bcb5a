use Rattle.std.proofs.Common.{◌≡◌, [], length}
use Rattle.rdl_diff.specs.ByPath.{texts, row_under}
use Rattle.rdl_diff.specs.Renames.{walked}
use Rattle.rdl_diff.proofs.by_path.put_walked.Given as goal

abbrev pub invariant-names : goal.invariant-names
invariant-names l = walked (row_under l.renamed) (texts l.walk.items) (texts l.rest) ≡ walked (row_under l.renamed) [] (texts l.names)

abbrev pub decreases-names : goal.decreases-names
decreases-names l = length l.rest
