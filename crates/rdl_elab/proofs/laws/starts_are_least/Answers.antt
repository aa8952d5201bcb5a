use Rattle.rdl_elab.proofs.Starts.{start-least, power-least}
use Rattle.rdl_elab.proofs.laws.starts_are_least.Goals as goal

pub returns : goal.returns
returns c = record { start = start-least; power = power-least }
