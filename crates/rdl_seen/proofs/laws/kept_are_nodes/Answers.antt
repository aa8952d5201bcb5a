use Rattle.rdl_seen.proofs.KeptAt.{kept_are_nodes, fields_are_like_nodes}
use Rattle.rdl_seen.proofs.laws.kept_are_nodes.Goals as goal

pub returns-clause-nodes : goal.returns-clause-nodes
returns-clause-nodes c = kept_are_nodes

pub returns-clause-fields : goal.returns-clause-fields
returns-clause-fields c = fields_are_like_nodes
