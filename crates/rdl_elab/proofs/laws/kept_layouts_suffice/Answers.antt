use Rattle.rdl_elab.proofs.KeptLayouts.{kept-laid_out}
use Rattle.rdl_elab.proofs.laws.kept_layouts_suffice.Goals as goal

pub returns : goal.returns
returns c = kept-laid_out
