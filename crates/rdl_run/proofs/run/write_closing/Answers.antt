use Rattle.std.proofs.Common.{inl, inr, ℕ, List, length, refl, sym, subst}
use Rattle.std.specs.Io.KnownBytes.{Appends}
use Rattle.rdl_run.specs.ClosingTexts.{texts_of}
use Rattle.rdl_run.specs.Faulted.{Leaves}
use Rattle.rdl_run.specs.Known.{AppendsFront}
use Rattle.rdl_run.specs.Turns.{HasTaken}
use Rattle.rdl_run.specs.declared.status.RunFault.{RunFault}
use Rattle.rdl_run.specs.Output.{outputs}
use Rattle.rdl_run.proofs.Stopped.{went}
use Rattle.rdl_run.proofs.run.write_closing.Goals as goal

pub returns-clause-wrote : goal.returns-clause-wrote
returns-clause-wrote g c =
    let m = g.E.Write.contents c.args.outputs.now.messages.writer.now in
    let r = g.R.Write.contents c.args.outputs.now.rdl.writer.now in
    let h = g.H.Write.contents c.args.outputs.now.header.writer.now in
    let z = g.Z.Write.contents c.args.outputs.now.session.writer.now in
    let m' = g.E.Write.contents c.write_counted.new.output.writer.now in
    let r' = g.R.Write.contents c.write_counted-2.new.output.writer.now in
    let h' = g.H.Write.contents c.write_counted-3.new.output.writer.now in
    let z' = g.Z.Write.contents c.write_counted-4.new.output.writer.now in
    record {
      messages = subst (Appends m m') c.as_bytes.ensures.value c.in_ok-write_counted.ensures.ok;
      rdl = subst (Appends r r') c.as_bytes-2.ensures.value c.in_ok-write_counted-2.ensures.ok;
      header = subst (Appends h h') c.as_bytes-3.ensures.value c.in_ok-write_counted-3.ensures.ok;
      session = subst (Appends z z') c.as_bytes-4.ensures.value c.in_ok-write_counted-4.ensures.ok;
      answer = refl;
    }

pub returns-clause-took : goal.returns-clause-took
returns-clause-took g c =
    let m = c.args.outputs.now.messages.counts in
    let r = c.args.outputs.now.rdl.counts in
    let h = c.args.outputs.now.header.counts in
    let z = c.args.outputs.now.session.counts in
    let m' = c.write_counted.new.output.counts in
    let r' = c.write_counted-2.new.output.counts in
    let h' = c.write_counted-3.new.output.counts in
    let z' = c.write_counted-4.new.output.counts in
    record {
      messages = subst (λ (text : List ℕ). HasTaken m m' (length text)) c.as_bytes.ensures.value c.in_ok-write_counted.ensures.took;
      rdl = subst (λ (text : List ℕ). HasTaken r r' (length text)) c.as_bytes-2.ensures.value c.in_ok-write_counted-2.ensures.took;
      header = subst (λ (text : List ℕ). HasTaken h h' (length text)) c.as_bytes-3.ensures.value c.in_ok-write_counted-3.ensures.took;
      session = subst (λ (text : List ℕ). HasTaken z z' (length text)) c.as_bytes-4.ensures.value c.in_ok-write_counted-4.ensures.took;
    }

pub returns-in_err-write_counted-clause-stopped : goal.returns-in_err-write_counted-clause-stopped
returns-in_err-write_counted-clause-stopped g c =
    let m = g.E.Write.contents c.args.outputs.now.messages.writer.now in
    let r = g.R.Write.contents c.args.outputs.now.rdl.writer.now in
    let h = g.H.Write.contents c.args.outputs.now.header.writer.now in
    let z = g.Z.Write.contents c.args.outputs.now.session.writer.now in
    let m' = g.E.Write.contents c.write_counted.new.output.writer.now in
    let leaves : RunFault → Type 0 = λ f. Leaves f (outputs m r h z) (outputs m' r h z) (texts_of c.args.closing.now) in
    went c.from_residual.result c.in_err-write_counted.field-0.0 leaves c.from_residual.ensures.1
    (subst leaves (sym c.in_err-write_counted.ensures.fault) (inl (record { messages = subst (AppendsFront m m') c.as_bytes.ensures.value c.in_err-write_counted.ensures.err; rdl = refl; header = refl; session = refl })))

pub returns-in_err-write_counted-2-clause-stopped : goal.returns-in_err-write_counted-2-clause-stopped
returns-in_err-write_counted-2-clause-stopped g c =
    let m = g.E.Write.contents c.args.outputs.now.messages.writer.now in
    let r = g.R.Write.contents c.args.outputs.now.rdl.writer.now in
    let h = g.H.Write.contents c.args.outputs.now.header.writer.now in
    let z = g.Z.Write.contents c.args.outputs.now.session.writer.now in
    let m' = g.E.Write.contents c.write_counted.new.output.writer.now in
    let r' = g.R.Write.contents c.write_counted-2.new.output.writer.now in
    let leaves : RunFault → Type 0 = λ f. Leaves f (outputs m r h z) (outputs m' r' h z) (texts_of c.args.closing.now) in
    went c.from_residual-in_err-write_counted-2.result c.in_err-write_counted-2.field-0.0 leaves c.from_residual-in_err-write_counted-2.ensures.1
    (subst leaves (sym c.in_err-write_counted-2.ensures.fault) (inr (inl (record { messages = subst (Appends m m') c.as_bytes.ensures.value c.in_ok-write_counted.ensures.ok; rdl = subst (AppendsFront r r') c.as_bytes-2.ensures.value c.in_err-write_counted-2.ensures.err; header = refl; session = refl }))))

pub returns-in_err-write_counted-3-clause-stopped : goal.returns-in_err-write_counted-3-clause-stopped
returns-in_err-write_counted-3-clause-stopped g c =
    let m = g.E.Write.contents c.args.outputs.now.messages.writer.now in
    let r = g.R.Write.contents c.args.outputs.now.rdl.writer.now in
    let h = g.H.Write.contents c.args.outputs.now.header.writer.now in
    let z = g.Z.Write.contents c.args.outputs.now.session.writer.now in
    let m' = g.E.Write.contents c.write_counted.new.output.writer.now in
    let r' = g.R.Write.contents c.write_counted-2.new.output.writer.now in
    let h' = g.H.Write.contents c.write_counted-3.new.output.writer.now in
    let leaves : RunFault → Type 0 = λ f. Leaves f (outputs m r h z) (outputs m' r' h' z) (texts_of c.args.closing.now) in
    went c.from_residual-in_err-write_counted-3.result c.in_err-write_counted-3.field-0.0 leaves c.from_residual-in_err-write_counted-3.ensures.1
    (subst leaves (sym c.in_err-write_counted-3.ensures.fault) (inr (inr (inl (record { messages = subst (Appends m m') c.as_bytes.ensures.value c.in_ok-write_counted.ensures.ok; rdl = subst (Appends r r') c.as_bytes-2.ensures.value c.in_ok-write_counted-2.ensures.ok; header = subst (AppendsFront h h') c.as_bytes-3.ensures.value c.in_err-write_counted-3.ensures.err; session = refl })))))

pub returns-in_err-write_counted-4-clause-stopped : goal.returns-in_err-write_counted-4-clause-stopped
returns-in_err-write_counted-4-clause-stopped g c =
    let m = g.E.Write.contents c.args.outputs.now.messages.writer.now in
    let r = g.R.Write.contents c.args.outputs.now.rdl.writer.now in
    let h = g.H.Write.contents c.args.outputs.now.header.writer.now in
    let z = g.Z.Write.contents c.args.outputs.now.session.writer.now in
    let m' = g.E.Write.contents c.write_counted.new.output.writer.now in
    let r' = g.R.Write.contents c.write_counted-2.new.output.writer.now in
    let h' = g.H.Write.contents c.write_counted-3.new.output.writer.now in
    let z' = g.Z.Write.contents c.write_counted-4.new.output.writer.now in
    let leaves : RunFault → Type 0 = λ f. Leaves f (outputs m r h z) (outputs m' r' h' z') (texts_of c.args.closing.now) in
    went c.from_residual-in_err-write_counted-4.result c.in_err-write_counted-4.field-0.0 leaves c.from_residual-in_err-write_counted-4.ensures.1
    (subst leaves (sym c.in_err-write_counted-4.ensures.fault) (inr (inr (inr (record { messages = subst (Appends m m') c.as_bytes.ensures.value c.in_ok-write_counted.ensures.ok; rdl = subst (Appends r r') c.as_bytes-2.ensures.value c.in_ok-write_counted-2.ensures.ok; header = subst (Appends h h') c.as_bytes-3.ensures.value c.in_ok-write_counted-3.ensures.ok; session = subst (AppendsFront z z') c.as_bytes-4.ensures.value c.in_err-write_counted-4.ensures.err })))))
