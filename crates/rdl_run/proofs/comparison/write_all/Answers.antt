use Rattle.std.proofs.Common.{ℕ, ◌<◌, length, string_bytes, sym, subst, ◌∙◌, arith, rules}
use Rattle.rdl_diff.specs.Left.{left}
use Rattle.rdl_diff.specs.declared.status.Status.TheVariants.{Different}
use Rattle.std.specs.Io.KnownBytes.{Appends}
use Rattle.rdl_run.specs.Comparing.{StopsLines}
use Rattle.rdl_run.specs.Known.{AppendsFront}
use Rattle.rdl_run.specs.declared.status.RunFault.TheVariants.{Memory}
use Rattle.rdl_run.proofs.Stopped.{went}
use Rattle.rdl_run.proofs.WrittenLines.{Waits, block_written, front_written, one_more, stopped_between}
use Rattle.rdl_run.proofs.comparison.write_all.Goals as goal

pub returns-in_err-push_next-clause-stopped : goal.returns-in_err-push_next-clause-stopped
returns-in_err-push_next-clause-stopped g c =
    let all = left c.args.differences.now in
    let a = g.W.Write.contents c.args.output.now.writer.now in
    let b = g.W.Write.contents c.rows.output.writer.now in
    went c.from_residual.result Memory (StopsLines all a b) c.from_residual.ensures.1
    (stopped_between all c.rows.differences a b (string_bytes c.rows.text) c.rows.status c.rows.invariant.waits)

pub returns-in_err-write_counted-clause-stopped : goal.returns-in_err-write_counted-clause-stopped
returns-in_err-write_counted-clause-stopped g c =
    let all = left c.args.differences.now in
    let a = g.W.Write.contents c.args.output.now.writer.now in
    let b = g.W.Write.contents c.rows.output.writer.now in
    let d = g.W.Write.contents c.write_counted.new.output.writer.now in
    let text = string_bytes c.push_next.new.text in
    let waits = one_more all c.rows.differences c.push_next.new.self a b (string_bytes c.rows.text) text c.rows.status c.rows.invariant.waits c.in_ok-push_next.ensures.passes in
    let wrote : AppendsFront b d text = subst (AppendsFront b d) c.as_bytes.ensures.value c.in_err-write_counted.ensures.err in
    went c.from_residual-in_err-write_counted.result c.in_err-write_counted.field-0.0 (StopsLines all a d) c.from_residual-in_err-write_counted.ensures.1
    (subst (StopsLines all a d) (sym c.in_err-write_counted.ensures.fault) (front_written all c.push_next.new.self a b d text c.rows.status waits wrote))

pub rows-preserved-then-len-ge-BLOCK : goal.rows-preserved-then-len-ge-BLOCK
rows-preserved-then-len-ge-BLOCK g c =
    let all = left c.args.differences.now in
    let a = g.W.Write.contents c.args.output.now.writer.now in
    let b = g.W.Write.contents c.rows.output.writer.now in
    let d = g.W.Write.contents c.write_counted.new.output.writer.now in
    let text = string_bytes c.push_next.new.text in
    let now = c.push_next.new.self in
    let waits = one_more all c.rows.differences now a b (string_bytes c.rows.text) text c.rows.status c.rows.invariant.waits c.in_ok-push_next.ensures.passes in
    let wrote : Appends b d text = subst (Appends b d) c.as_bytes.ensures.value c.in_ok-write_counted.ensures.ok in
    let long : 0 < length text = first_of (omega arith, search rules, grind arith) in
    record {
      waits = subst (λ t. Waits all now a d t Different) (sym c.clear.ensures.bytes) (block_written all now a b d text c.rows.status waits long wrote);
      asked = c.in_ok-write_counted.ensures.asked;
      same = c.in_ok-write_counted.ensures.same_reference ∙ c.rows.invariant.same;
    }

pub rows-preserved : goal.rows-preserved
rows-preserved g c = record {
  waits = one_more (left c.args.differences.now) c.rows.differences c.push_next.new.self _ _ (string_bytes c.rows.text) (string_bytes c.push_next.new.text) c.rows.status c.rows.invariant.waits c.in_ok-push_next.ensures.passes;
  asked = c.rows.invariant.asked;
  same = c.rows.invariant.same;
}

pub returns-in_err-write_counted-2-clause-stopped : goal.returns-in_err-write_counted-2-clause-stopped
returns-in_err-write_counted-2-clause-stopped g c =
    let all = left c.args.differences.now in
    let a = g.W.Write.contents c.args.output.now.writer.now in
    let b = g.W.Write.contents c.rows.output.writer.now in
    let d = g.W.Write.contents c.write_counted-2.new.output.writer.now in
    let text = string_bytes c.push_next.new.text in
    let waits = one_more all c.rows.differences c.push_next.new.self a b (string_bytes c.rows.text) text c.rows.status c.rows.invariant.waits c.in_ok-push_next.ensures.passes in
    let wrote : AppendsFront b d text = subst (AppendsFront b d) c.as_bytes-2.ensures.value c.in_err-write_counted-2.ensures.err in
    went c.from_residual-in_err-write_counted-2.result c.in_err-write_counted-2.field-0.0 (StopsLines all a d) c.from_residual-in_err-write_counted-2.ensures.1
    (subst (StopsLines all a d) (sym c.in_err-write_counted-2.ensures.fault) (front_written all c.push_next.new.self a b d text c.rows.status waits wrote))
