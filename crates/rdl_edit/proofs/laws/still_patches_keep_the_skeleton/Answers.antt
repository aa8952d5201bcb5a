use Rattle.rdl_edit.proofs.Staying.{skeleton-stays}
use Rattle.rdl_edit.proofs.laws.still_patches_keep_the_skeleton.Goals as goal

pub returns : goal.returns
returns c = skeleton-stays
