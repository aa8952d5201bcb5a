use Rattle.rdl_elab.proofs.Placing.{behind-all}
use Rattle.rdl_elab.proofs.layout.placing.Placing.layout.Goals as goal

pub returns : goal.returns
returns c = behind-all c.args.self c.from_vec.result c.from_vec.ensures
