use Rattle.rdl_elab.proofs.Along.{reached-assigned}
use Rattle.rdl_elab.proofs.RowsAlong.{along-inside}
use Rattle.rdl_elab.proofs.laws.assignments_come_along.Goals as goal

pub returns : goal.returns
returns c = record { reached = reached-assigned; further = along-inside }
