use Rattle.std.proofs.Common.{◌-◌, ◌≤◌, length, take}
use Rattle.std.specs.Io.KnownBytes.{Consumes}
use Rattle.whole_files.proofs.same.gives_text.Given as goal

abbrev pub invariant-loop-at : goal.invariant-loop-at
invariant-loop-at g l = record {
  gave : Consumes (g.F.Read.remaining l.fn.reader) (g.F.Read.remaining l.reader) (take l.at l.text);
  inside : l.at ≤ length l.text;
}

-- each turn gives a byte
abbrev pub decreases-loop-at : goal.decreases-loop-at
decreases-loop-at g l = length l.text - l.at
