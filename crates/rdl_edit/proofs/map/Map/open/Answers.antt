use Rattle.rdl_edit.proofs.Placings.{opened}
use Rattle.rdl_edit.proofs.map.Map.open.Goals as goal

pub returns-clause-placed : goal.returns-clause-placed
returns-clause-placed c = opened c.args.description.items c.in_ok-held.held c.in_ok-held.ensures.held c.in_ok-held.ensures.placed
