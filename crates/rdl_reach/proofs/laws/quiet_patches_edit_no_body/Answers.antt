use Rattle.rdl_reach.proofs.QuietPatches.{quiet_patches_edit_nothing}
use Rattle.rdl_reach.proofs.laws.quiet_patches_edit_no_body.Goals as goal

pub returns : goal.returns
returns c = quiet_patches_edit_nothing
