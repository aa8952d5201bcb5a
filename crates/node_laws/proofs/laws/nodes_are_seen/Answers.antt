use Rattle.node_laws.proofs.Nodes.{nodes_are_seen, nodes_are_known, kept_are_seen}
use Rattle.node_laws.proofs.laws.nodes_are_seen.Goals as goal

pub returns-clause-seen : goal.returns-clause-seen
returns-clause-seen c = nodes_are_seen

pub returns-clause-known : goal.returns-clause-known
returns-clause-known c = nodes_are_known

pub returns-clause-kept : goal.returns-clause-kept
returns-clause-kept c = kept_are_seen
