use Rattle.rdl_parse.proofs.Exact.{one-spelled}
use Rattle.rdl_parse.proofs.laws.one_description.Goals as goal

pub returns : goal.returns
returns c = one-spelled
