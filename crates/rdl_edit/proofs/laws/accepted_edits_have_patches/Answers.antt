use Rattle.std.proofs.Common.{sym}
use Rattle.rdl_edit.proofs.EditsLead.{edit-fits, edit-leads}
use Rattle.rdl_edit.proofs.OwnSteps.{back-there}
use Rattle.rdl_edit.proofs.laws.accepted_edits_have_patches.Goals as goal

pub returns : goal.returns
returns c = record { fit = edit-fits; made = edit-leads; back = λ old e new rows led. sym (back-there old e new rows led) }
