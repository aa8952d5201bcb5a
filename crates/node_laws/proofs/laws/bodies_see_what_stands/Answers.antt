use Rattle.node_laws.proofs.Nodes.{means_all_at}
use Rattle.node_laws.proofs.Walks.{means_all_behind, means_all_behind_component}
use Rattle.node_laws.proofs.laws.bodies_see_what_stands.Goals as goal

pub returns-clause-behind : goal.returns-clause-behind
returns-clause-behind c = means_all_behind

pub returns-clause-behind_component : goal.returns-clause-behind_component
returns-clause-behind_component c = means_all_behind_component

pub returns-clause-at : goal.returns-clause-at
returns-clause-at c = means_all_at
