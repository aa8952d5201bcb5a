use Rattle.run_laws.proofs.Opened.{opened-writable}
use Rattle.run_laws.proofs.scripts.opened_maps_are_writable.Goals as goal

pub returns : goal.returns
returns c = opened-writable
