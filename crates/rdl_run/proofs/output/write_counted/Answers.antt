use Rattle.std.proofs.Common.{subst, sym, ap, rules, arith}
use Rattle.std.specs.Io.KnownBytes.{Appends}
use Rattle.std.proofs.KnownBytes.{Appends-trans}
use Rattle.rdl_run.specs.Turns.{IsOpen}
use Rattle.rdl_run.proofs.Tallied.{taken-more}
use Rattle.rdl_run.proofs.Written.{written_more}
use Rattle.rdl_run.proofs.output.write_counted.Goals as goal

pub loop-at-preserved-in-Took : goal.loop-at-preserved-in-Took
loop-at-preserved-in-Took g c =
    let contents = g.W.Write.contents in
    record {
      wrote = subst (Appends (contents c.args.output.now.writer.now) (contents c.write.new.self.writer.now)) (written_more c.args.bytes.now c.loop-at.at c.in-Took.n)
          (Appends-trans _ (contents c.loop-at.output.writer.now) _ _ _ c.loop-at.invariant.wrote c.in-Took.ensures.wrote.1);
      inside = search rules;
      takes = omega (arith, c.loop-at.invariant.takes, c.in-Took.ensures.counted.0, ap (λ counts. counts.takes) c.in-Took.ensures.counted.1);
      took = taken-more c.args.output.now.counts c.loop-at.output.counts c.write.new.self.counts c.loop-at.at c.in-Took.n c.loop-at.invariant.took c.in-Took.ensures.counted.1;
      asked = subst IsOpen (sym c.in-Took.ensures.counted.1) (record { unended = c.loop-at.invariant.asked.unended; few = c.loop-at.invariant.asked.few });
      same = search rules;
    }
