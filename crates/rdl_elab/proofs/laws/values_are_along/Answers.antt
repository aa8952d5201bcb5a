use Rattle.rdl_elab.proofs.RowsAlong.{values-row, values-alone, values-top}
use Rattle.rdl_elab.proofs.laws.values_are_along.Goals as goal

pub returns : goal.returns
returns c = record { row = λ d path at s o c. values-row d path at s o c.head c.parts; alone = values-alone; top = values-top }
