use Rattle.std.proofs.Common.{◌≡◌, ◌+◌, ◌≤◌, length}
use Rattle.std.specs.Io.KnownBytes.{Consumes}
use Rattle.rdl_run.specs.Turns.{MayBeRead}
use Rattle.rdl_run.proofs.input.read_counted.Given as goal

abbrev pub invariant-loop-turn : goal.invariant-loop-turn
invariant-loop-turn g l = record {
  took : Consumes (g.R.Read.remaining l.fn.input.reader.now) (g.R.Read.remaining l.input.reader.now) l.bytes.items;
  small : length l.bytes.items ≤ l.limit;
  asked : MayBeRead l.input.counts;
  turns : l._turn ≤ length l.bytes.items + l.input.counts.interrupts;
  reads : l.input.counts.reads ≡ l._turn;
  same : l.input.reader.ghost_name ≡ l.fn.input.reader.ghost_name;
}
