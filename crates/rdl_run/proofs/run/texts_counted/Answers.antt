use Rattle.std.proofs.Common.{ℕ, List, [], Some, length, string_bytes, refl, sym, subst}
use Rattle.std.specs.Io.KnownBytes.{Appends}
use Rattle.rdl_run.specs.ClosingTexts.{texts_of}
use Rattle.rdl_run.specs.Faulted.{Faulted}
use Rattle.rdl_run.specs.Known.{AppendsFront}
use Rattle.rdl_run.specs.RunTexts.{in_memory}
use Rattle.rdl_run.specs.Turns.{HasTaken}
use Rattle.rdl_run.proofs.RunLemmas.{texts_counted}
use Rattle.rdl_run.proofs.Stopped.{went, failed_closing, leaves_message}
use Rattle.rdl_run.proofs.run.texts_counted.Goals as goal

pub returns-clause-ran : goal.returns-clause-ran
returns-clause-ran g c =
    let mid = g.E.Write.contents c.run_lines.new.messages.writer.now in
    let new = g.E.Write.contents c.write_counted.new.output.writer.now in
    let counts = c.write_counted.new.output.counts in
    let closing = c.in_ok-closing.closing in
    texts_counted c.args.options.now _ _ _ mid _ _ closing c.in_ok-closing.ensures.closes new counts (record { status = closing.status; rdl = closing.rdl; header = closing.header; session = closing.session; edited = closing.edited; saved = closing.saved })
    (record { messages = subst (Appends mid new) c.as_bytes.ensures.value c.in_ok-write_counted.ensures.ok; rdl = refl; header = refl; session = refl; answer = refl })
    (subst (λ (bytes : List ℕ). HasTaken c.run_lines.new.messages.counts counts (length bytes)) c.as_bytes.ensures.value c.in_ok-write_counted.ensures.took)

pub returns-in_err-closing-clause-faulted : goal.returns-in_err-closing-clause-faulted
returns-in_err-closing-clause-faulted g c =
    let map = g.M.Read.remaining c.args.map.now.reader.now in
    let script = g.S.Read.remaining c.args.script.now.reader.now in
    let old = g.E.Write.contents c.args.messages.now.writer.now in
    let new = g.E.Write.contents c.run_lines.new.messages.writer.now in
    went c.from_residual.result c.in_err-closing.field-0.0 (Faulted c.args.options.now map script (in_memory old [] [] []) (in_memory new [] [] [])) c.from_residual.ensures.1
    (c.in_err-closing.ensures.stops (Some []) (Some []) (Some []))

pub returns-in_err-write_counted-clause-faulted : goal.returns-in_err-write_counted-clause-faulted
returns-in_err-write_counted-clause-faulted g c =
    let options = c.args.options.now in
    let map = g.M.Read.remaining c.args.map.now.reader.now in
    let script = g.S.Read.remaining c.args.script.now.reader.now in
    let old = g.E.Write.contents c.args.messages.now.writer.now in
    let mid = g.E.Write.contents c.run_lines.new.messages.writer.now in
    let new = g.E.Write.contents c.write_counted.new.output.writer.now in
    let closing = c.in_ok-closing.closing in
    let stopped = Faulted options map script (in_memory old [] [] []) (in_memory new [] [] []) in
    let wrote : AppendsFront mid new (string_bytes closing.message) = subst (AppendsFront mid new) c.as_bytes.ensures.value c.in_err-write_counted.ensures.err in
    went c.from_residual-in_err-write_counted.result c.in_err-write_counted.field-0.0 stopped c.from_residual-in_err-write_counted.ensures.1
    (subst stopped (sym c.in_err-write_counted.ensures.fault)
    (failed_closing options map script old mid _ _ closing c.in_ok-closing.ensures.closes new (Some []) (Some []) (Some []) (Some []) (Some []) (Some [])
    (leaves_message mid new (Some []) (Some []) (Some []) (texts_of closing) wrote)))
