use Rattle.rdl_edit.proofs.NewNames.{renaming-same}
use Rattle.rdl_edit.proofs.laws.renamings_keep_the_skeleton.Goals as goal

pub returns : goal.returns
returns c = renaming-same
