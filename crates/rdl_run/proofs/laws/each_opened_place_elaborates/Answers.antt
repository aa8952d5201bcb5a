use Rattle.rdl_run.proofs.Openings.{opened-elaborates}
use Rattle.rdl_run.proofs.laws.each_opened_place_elaborates.Goals as goal

pub returns : goal.returns
returns c = opened-elaborates
