use Rattle.rdl_seen.proofs.Stands.{means_behind, means_behind_component, means_at, nodes_have_values}
use Rattle.rdl_seen.proofs.laws.nodes_mean.Goals as goal

pub returns-clause-behind : goal.returns-clause-behind
returns-clause-behind c = means_behind

pub returns-clause-behind_component : goal.returns-clause-behind_component
returns-clause-behind_component c = means_behind_component

pub returns-clause-at : goal.returns-clause-at
returns-clause-at c = means_at

pub returns-clause-values : goal.returns-clause-values
returns-clause-values c = nodes_have_values
