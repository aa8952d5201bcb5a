use Rattle.rdl_scope.proofs.AsFound.{as_found, value-found}
use Rattle.rdl_scope.proofs.Holds.{holds}
use Rattle.rdl_scope.proofs.laws.components_are_as_found.Goals as goal

pub returns : goal.returns
returns c = record { exists = holds; found = as_found; values = value-found }
