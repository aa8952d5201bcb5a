use Rattle.rdl_seen.proofs.Judged.{faults_are_found}
use Rattle.rdl_seen.proofs.Sizes.{small_maps_fit}
use Rattle.rdl_seen.proofs.laws.faults_are_found.Goals as goal

pub returns-clause-found : goal.returns-clause-found
returns-clause-found c = faults_are_found

pub returns-clause-small : goal.returns-clause-small
returns-clause-small c = small_maps_fit
