use Rattle.std.proofs.Common.{◌≡◌, string_bytes}
use Rattle.rdl_diff.specs.Left.{left, texts_left}
use Rattle.rdl_run.specs.Turns.{IsOpen}
use Rattle.rdl_run.proofs.WrittenLines.{Waits}
use Rattle.rdl_run.proofs.comparison.write_all.Given as goal

abbrev pub invariant-rows : goal.invariant-rows
invariant-rows g l = record {
  waits : Waits (left l.fn.differences) l.differences (g.W.Write.contents l.fn.output.writer.now) (g.W.Write.contents l.output.writer.now) (string_bytes l.text) l.status;
  asked : IsOpen l.output.counts;
  same : l.output.writer.ghost_name ≡ l.fn.output.writer.ghost_name;
}

abbrev pub decreases-rows : goal.decreases-rows
decreases-rows g l = texts_left l.differences
