use Rattle.run_laws.proofs.Stepped.{edited-reads-back}
use Rattle.run_laws.proofs.edits.edited_maps_read_back.Goals as goal

pub returns : goal.returns
returns c = edited-reads-back
