use Rattle.rdl_seen.proofs.Unmoved.{coincides, coincides_within}
use Rattle.rdl_seen.proofs.laws.components_coincide.Goals as goal

pub returns-clause-kept : goal.returns-clause-kept
returns-clause-kept c = coincides

pub returns-clause-within : goal.returns-clause-within
returns-clause-within c = coincides_within
