use Rattle.rdl_elab.proofs.Members.{layout-found}
use Rattle.rdl_elab.proofs.laws.layouts_are_as_found.Goals as goal

pub returns : goal.returns
returns c = layout-found
