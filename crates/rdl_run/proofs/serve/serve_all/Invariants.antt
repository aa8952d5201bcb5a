use Rattle.std.proofs.Common.{◌≡◌, ◌+◌, ◌≤◌, length, string_bytes}
use Rattle.std.specs.Option.{option_copied}
use Rattle.rdl_run.specs.OwnSteps.{AllOwn}
use Rattle.rdl_run.specs.ScriptLines.{left_len}
use Rattle.rdl_run.specs.Shown.{AreAt}
use Rattle.rdl_run.specs.Turns.{IsOpen}
use Rattle.rdl_run.proofs.SoFar.{SoFar}
use Rattle.rdl_run.proofs.serve.serve_all.Given as goal

abbrev pub invariant-lines : goal.invariant-lines
invariant-lines g l = record {
  so_far : SoFar l.fn.journal.history l.script (option_copied l.rest) l.number (g.E.Write.contents l.fn.messages.writer.now) (g.E.Write.contents l.messages.writer.now) l.fn.messages.counts l.messages.counts (string_bytes l.waiting) l.refused l.journal.history;
  room : l.number + left_len (option_copied l.rest) ≤ length l.script + 1;
  own : AllOwn l.fn.journal → AllOwn l.journal;
  keeps : AreAt l.journal.history l.kept;
  asked : IsOpen l.messages.counts;
  same : l.messages.writer.ghost_name ≡ l.fn.messages.writer.ghost_name;
}

abbrev pub decreases-lines : goal.decreases-lines
decreases-lines g l = left_len (option_copied l.rest)
