use Rattle.rdl_edit.proofs.StillEdits.{still-edit}
use Rattle.rdl_edit.proofs.laws.still_edits_have_still_patches.Goals as goal

pub returns : goal.returns
returns c = still-edit
