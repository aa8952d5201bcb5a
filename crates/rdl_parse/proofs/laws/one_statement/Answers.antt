use Rattle.rdl_parse.proofs.Exact.{one-statement}
use Rattle.rdl_parse.proofs.laws.one_statement.Goals as goal

pub returns : goal.returns
returns c = one-statement
