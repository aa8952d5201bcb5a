use Rattle.rdl_source.specs.Laid.{count}
use Rattle.rdl_weave.proofs.unit.+unit.Given as goal

abbrev pub decreases-unit_in : goal.decreases-unit_in
decreases-unit_in l = count l.statements.now
