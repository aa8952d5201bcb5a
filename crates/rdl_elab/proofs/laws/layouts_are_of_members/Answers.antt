use Rattle.rdl_elab.proofs.Members.{layout-members}
use Rattle.rdl_elab.proofs.laws.layouts_are_of_members.Goals as goal

pub returns : goal.returns
returns c = layout-members
