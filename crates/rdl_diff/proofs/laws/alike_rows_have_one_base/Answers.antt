use Rattle.rdl_diff.proofs.Bases.{alike-same}
use Rattle.rdl_diff.proofs.laws.alike_rows_have_one_base.Goals as goal

pub returns : goal.returns
returns c = alike-same
