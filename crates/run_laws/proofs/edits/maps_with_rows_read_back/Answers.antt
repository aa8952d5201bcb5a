use Rattle.run_laws.proofs.Stepped.{rows-short, rows-read-back}
use Rattle.run_laws.proofs.edits.maps_with_rows_read_back.Goals as goal

pub returns-clause-short : goal.returns-clause-short
returns-clause-short c = rows-short

pub returns-clause-read : goal.returns-clause-read
returns-clause-read c = rows-read-back
