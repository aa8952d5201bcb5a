use Rattle.std.proofs.Common.{◌≡◌, ◌∙◌, ℕ, List, OnErr, OnOk, length, string_bytes, subst}
use Rattle.std.specs.Io.KnownBytes.{Appends}
use Rattle.rdl_run.specs.Known.{AppendsFront}
use Rattle.rdl_run.specs.Turns.{HasTaken}
use Rattle.rdl_run.proofs.Said.{both_written, second_unwritten}
use Rattle.rdl_run.proofs.serve.say.Goals as goal

pub returns-clause-says : goal.returns-clause-says
returns-clause-says g c =
    let a = g.E.Write.contents c.args.messages.now.writer.now in
    let b = g.E.Write.contents c.write_counted.new.output.writer.now in
    let new = g.E.Write.contents c.write_counted-2.new.output.writer.now in
    let x = c.args.messages.now.counts in
    let y = c.write_counted.new.output.counts in
    let z = c.write_counted-2.new.output.counts in
    let waiting : c.as_bytes.result.now ≡ string_bytes c.args.waiting.now = c.as_bytes.ensures.value ∙ c.if-let_wait.ensures.waits in
    both_written a b new (string_bytes c.args.waiting.now) c.args.message.now x y z (string_bytes c.clear.new.self) c.write_counted-2.result c.clear.ensures.bytes
    (subst (Appends a b) waiting c.in_ok-write_counted.ensures.ok)
    (subst (λ (l : List ℕ). HasTaken x y (length l)) waiting c.in_ok-write_counted.ensures.took)
    (subst (λ (l : List ℕ). OnOk c.write_counted-2.result (Appends b new l)) c.as_bytes-2.ensures.value c.write_counted-2.ensures.ok)
    (subst (λ (l : List ℕ). OnOk c.write_counted-2.result (HasTaken y z (length l))) c.as_bytes-2.ensures.value c.write_counted-2.ensures.took)

pub returns-clause-err : goal.returns-clause-err
returns-clause-err g c =
    let a = g.E.Write.contents c.args.messages.now.writer.now in
    let b = g.E.Write.contents c.write_counted.new.output.writer.now in
    let new = g.E.Write.contents c.write_counted-2.new.output.writer.now in
    let waiting : c.as_bytes.result.now ≡ string_bytes c.args.waiting.now = c.as_bytes.ensures.value ∙ c.if-let_wait.ensures.waits in
    second_unwritten a b new (string_bytes c.args.waiting.now) c.args.message.now c.write_counted-2.result
    (subst (Appends a b) waiting c.in_ok-write_counted.ensures.ok)
    (subst (λ (l : List ℕ). OnErr c.write_counted-2.result (AppendsFront b new l)) c.as_bytes-2.ensures.value c.write_counted-2.ensures.err)
