use Rattle.std.proofs.Common.{◌≡◌, map, take}
use Rattle.std.specs.Io.KnownBytes.{Appends}
use Rattle.rdl_run.specs.Turns.{IsOpen}
use Rattle.regedit.specs.Files.{seen, to_output}
use Rattle.regedit.proofs.files.write_standard.Given as goal

abbrev pub invariant-outputs : goal.invariant-outputs
invariant-outputs g l = record {
  asked : IsOpen l.output.counts;
  wrote : Appends (g.W.Write.contents l.fn.output.writer.now) (g.W.Write.contents l.output.writer.now) (to_output (map seen (take l.one-index l.outputs)));
  same : l.output.writer.ghost_name ≡ l.fn.output.writer.ghost_name;
}
