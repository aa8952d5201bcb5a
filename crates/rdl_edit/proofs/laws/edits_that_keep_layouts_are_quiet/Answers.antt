use Rattle.rdl_edit.proofs.QuietEdits.{quiet-edits}
use Rattle.rdl_edit.proofs.laws.edits_that_keep_layouts_are_quiet.Goals as goal

pub returns : goal.returns
returns c = quiet-edits
