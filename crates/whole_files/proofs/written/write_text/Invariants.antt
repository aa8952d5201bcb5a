use Rattle.std.proofs.Common.{◌+◌, ◌-◌, ◌≤◌, length, take}
use Rattle.std.specs.Io.KnownBytes.{Appends}
use Rattle.whole_files.proofs.written.write_text.Given as goal

abbrev pub invariant-loop-at : goal.invariant-loop-at
invariant-loop-at g l = record {
  wrote : Appends (g.W.Write.contents l.fn.writer) (g.W.Write.contents l.writer) (take l.at l.text);
  inside : l.at ≤ length l.text;
  few : l.interrupts ≤ 1000;
}

-- each turn takes a byte or is interrupted
abbrev pub decreases-loop-at : goal.decreases-loop-at
decreases-loop-at g l = length l.text - l.at + (1001 - l.interrupts)
