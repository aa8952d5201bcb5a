use Rattle.regdiff.proofs.Refused.{taken_well}
use Rattle.regdiff.proofs.command.command.Goals as goal

pub returns-in-Ok-clause-refused : goal.returns-in-Ok-clause-refused
returns-in-Ok-clause-refused g c are = absurd (taken_well _ c.in-Ok.line c.in-Ok.ensures.ok c.in-Ok.ensures.well are)
