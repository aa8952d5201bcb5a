use Rattle.rdl_elab.proofs.PartsFound.{parts-found}
use Rattle.rdl_elab.proofs.RowsAlong.{reaches-body}
use Rattle.rdl_elab.proofs.laws.instances_are_as_found.Goals as goal

pub returns : goal.returns
returns c = record { parts = parts-found; assignments = reaches-body }
