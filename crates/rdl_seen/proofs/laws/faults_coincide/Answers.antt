use Rattle.rdl_seen.proofs.Clean.{faults_coincide}
use Rattle.rdl_seen.proofs.laws.faults_coincide.Goals as goal

pub returns : goal.returns
returns c = faults_coincide
