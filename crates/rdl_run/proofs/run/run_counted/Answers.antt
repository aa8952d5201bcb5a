use Rattle.std.proofs.Common.{sym, subst}
use Rattle.rdl_run.specs.ClosingTexts.{texts_of}
use Rattle.rdl_run.specs.Faulted.{Faulted, Leaves}
use Rattle.rdl_run.specs.Output.{outputs}
use Rattle.rdl_run.specs.Turns.{tallies}
use Rattle.rdl_run.proofs.RunLemmas.{ran_counted}
use Rattle.rdl_run.proofs.Stopped.{went, failed_closing}
use Rattle.rdl_run.proofs.run.run_counted.Goals as goal

pub returns-clause-ran : goal.returns-clause-ran
returns-clause-ran g c =
    let new = c.write_closing.new.outputs in
    ran_counted c.args.options.now _ _ _ _ _ _ c.in_ok-closing.closing c.in_ok-closing.ensures.closes _ _ _ _ _ _ _ _ _ _ _
    (tallies new.messages.counts new.rdl.counts new.header.counts new.session.counts) c.in_ok-write_closing.ensures.wrote c.in_ok-write_closing.ensures.took

pub returns-in_err-closing-clause-faulted : goal.returns-in_err-closing-clause-faulted
returns-in_err-closing-clause-faulted g c =
    let old = c.args.outputs.now in
    let r = g.R.Write.contents old.rdl.writer.now in
    let h = g.H.Write.contents old.header.writer.now in
    let z = g.Z.Write.contents old.session.writer.now in
    let stopped = Faulted c.args.options.now (g.M.Read.remaining c.args.map.now.reader.now) (g.S.Read.remaining c.args.script.now.reader.now)
    (outputs (g.E.Write.contents old.messages.writer.now) r h z) (outputs (g.E.Write.contents c.run_lines.new.messages.writer.now) r h z) in
    went c.from_residual.result c.in_err-closing.field-0.0 stopped c.from_residual.ensures.1 (c.in_err-closing.ensures.stops r h z)

pub returns-in_err-write_closing-clause-faulted : goal.returns-in_err-write_closing-clause-faulted
returns-in_err-write_closing-clause-faulted g c =
    let options = c.args.options.now in
    let map = g.M.Read.remaining c.args.map.now.reader.now in
    let script = g.S.Read.remaining c.args.script.now.reader.now in
    let old = c.args.outputs.now in
    let new = c.write_closing.new.outputs in
    let closing = c.in_ok-closing.closing in
    let m = g.E.Write.contents old.messages.writer.now in
    let r = g.R.Write.contents old.rdl.writer.now in
    let h = g.H.Write.contents old.header.writer.now in
    let z = g.Z.Write.contents old.session.writer.now in
    let mid = g.E.Write.contents c.run_lines.new.messages.writer.now in
    let m' = g.E.Write.contents new.messages.writer.now in
    let r' = g.R.Write.contents new.rdl.writer.now in
    let h' = g.H.Write.contents new.header.writer.now in
    let z' = g.Z.Write.contents new.session.writer.now in
    let stopped = Faulted options map script (outputs m r h z) (outputs m' r' h' z') in
    let is_write = c.in_err-write_closing.ensures.fault in
    went c.from_residual-in_err-write_closing.result c.in_err-write_closing.field-0.0 stopped c.from_residual-in_err-write_closing.ensures.1
    (subst stopped (sym is_write)
    (failed_closing options map script m mid old.messages.counts c.run_lines.new.messages.counts closing c.in_ok-closing.ensures.closes m' r r' h h' z z'
    (subst (λ f. Leaves f (outputs mid r h z) (outputs m' r' h' z') (texts_of closing)) is_write c.in_err-write_closing.ensures.stopped)))
