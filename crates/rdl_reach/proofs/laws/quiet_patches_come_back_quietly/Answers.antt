use Rattle.rdl_reach.proofs.QuietBacks.{quiet-back}
use Rattle.rdl_reach.proofs.laws.quiet_patches_come_back_quietly.Goals as goal

pub returns : goal.returns
returns c = quiet-back
