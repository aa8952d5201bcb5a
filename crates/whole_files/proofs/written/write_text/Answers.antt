use Rattle.std.proofs.Common.{subst, rules}
use Rattle.std.specs.Io.KnownBytes.{Appends}
use Rattle.std.proofs.KnownBytes.{Appends-trans}
use Rattle.whole_files.proofs.Parts.{taken_more}
use Rattle.whole_files.proofs.written.write_text.Goals as goal

pub loop-at-preserved-in-Ok : goal.loop-at-preserved-in-Ok
loop-at-preserved-in-Ok g c =
    let contents = g.W.Write.contents in
    record {
      wrote = subst (Appends (contents c.args.writer.now) (contents c.write.new.self)) (taken_more c.args.text.now c.loop-at.at c.in-Ok.n)
          (Appends-trans _ (contents c.loop-at.writer) _ _ _ c.loop-at.invariant.wrote c.in-Ok.ensures.bytes);
      inside = search rules;
      few = c.loop-at.invariant.few;
    }
