use Rattle.node_laws.proofs.Along.{nodes_are_kept}
use Rattle.node_laws.proofs.laws.nodes_are_kept.Goals as goal

pub returns : goal.returns
returns c = nodes_are_kept
