use Rattle.run_laws.proofs.Scripted.{served-writable}
use Rattle.run_laws.proofs.scripts.scripts_keep_maps_writable.Goals as goal

pub returns : goal.returns
returns c = served-writable
