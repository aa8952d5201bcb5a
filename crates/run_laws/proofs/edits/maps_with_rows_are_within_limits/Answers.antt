use Rattle.run_laws.proofs.Stepped.{rows-within}
use Rattle.run_laws.proofs.edits.maps_with_rows_are_within_limits.Goals as goal

pub returns : goal.returns
returns c = rows-within
