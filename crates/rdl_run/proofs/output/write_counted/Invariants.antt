use Rattle.std.proofs.Common.{◌≡◌, ◌+◌, ◌-◌, ◌≤◌, length, take}
use Rattle.std.specs.Io.KnownBytes.{Appends}
use Rattle.rdl_run.specs.Turns.{HasTaken, IsOpen}
use Rattle.rdl_run.proofs.output.write_counted.Given as goal

abbrev pub invariant-loop-at : goal.invariant-loop-at
invariant-loop-at g l = record {
  wrote : Appends (g.W.Write.contents l.fn.output.writer.now) (g.W.Write.contents l.output.writer.now) (take l.at l.bytes);
  inside : l.at ≤ length l.bytes;
  takes : l.output.counts.takes ≤ l.fn.output.counts.takes + l.at;
  took : HasTaken l.fn.output.counts l.output.counts l.at;
  asked : IsOpen l.output.counts;
  same : l.output.writer.ghost_name ≡ l.fn.output.writer.ghost_name;
}

-- each turn takes a byte or is interrupted
abbrev pub decreases-loop-at : goal.decreases-loop-at
decreases-loop-at g l = length l.bytes - l.at + (1001 - l.output.counts.interrupts)
