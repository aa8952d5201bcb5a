use Rattle.std.proofs.Common.{sym}
use Rattle.whole_files.proofs.output.take_places.Goals as goal

pub returns-in-Err : goal.returns-in-Err
returns-in-Err g c = (c.loop-one.one-index, c.one-item.result, c.loop-one-test.true, sym c.one-item.is, c.in-Err.ensures)
