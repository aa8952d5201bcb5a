use Rattle.std.proofs.Common.{refl, subst, sym, ◌∙◌}
use Rattle.std.specs.Io.KnownBytes.{Consumes}
use Rattle.std.proofs.KnownBytes.{Consumes-trans}
use Rattle.std.specs.Cmp.Lexicographic.{same_text}
use Rattle.whole_files.proofs.Parts.{given_more, inside_more}
use Rattle.whole_files.proofs.same.gives_text.Goals as goal

pub loop-at-preserved : goal.loop-at-preserved
loop-at-preserved g c =
    let remaining = g.F.Read.remaining in
    let block = c.read.new.buf in
    let count = c.in_ok-count.count in
    let same = same_text _ _ (sym c.if-not-starts_with.false ∙ c.starts_with.ensures.value) in
    record {
      gave = subst (Consumes (remaining c.args.reader.now) (remaining c.read.new.self)) (given_more c.args.text.now block c.loop-at.at count c.in_ok-count.ensures.bound.0 same)
          (Consumes-trans _ (remaining c.loop-at.reader) _ _ _ c.loop-at.invariant.gave c.in_ok-count.ensures.bytes.0);
      inside = inside_more c.args.text.now block c.loop-at.at count c.in_ok-count.ensures.bound.0 c.loop-at.invariant.inside (c.if-not-starts_with.ensures.bound refl);
    }
