use Rattle.rdl_diff.proofs.RowPaths.{own-paths}
use Rattle.rdl_diff.proofs.laws.accepted_rows_have_own_paths.Goals as goal

pub returns : goal.returns
returns c = own-paths
