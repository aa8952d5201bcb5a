use Rattle.rdl_run.specs.ClosedRuns.{StopsScript}
use Rattle.rdl_run.specs.OwnSteps.{AllOwn}
use Rattle.rdl_run.specs.Sources.{source_of}
use Rattle.rdl_run.proofs.Besides.{edits_script_if}
use Rattle.rdl_run.proofs.RunLemmas.{closes_script_if}
use Rattle.rdl_run.proofs.Stopped.{went, stopped_serving, stops_closing_if}
use Rattle.rdl_run.proofs.run.run_script.Goals as goal

pub returns-clause-closes : goal.returns-clause-closes
returns-clause-closes g c =
    closes_script_if (AllOwn c.args.journal.now) c.args.options.now.session c.args.journal.now.history c.serve_all.new.journal.history c.args.script.now c.in_ok-is_refused.is_refused _ _ _ _ c.of.result
    c.in_ok-is_refused.ensures.served c.of.ensures.closes (λ own. c.of.ensures.own (c.serve_all.ensures.stay_own own))

pub returns-clause-stops : goal.returns-clause-stops
returns-clause-stops g c = λ whole.
    let served = c.in_ok-is_refused.ensures.served in
    stops_closing_if c.args.options.now.session c.args.journal.now.history c.serve_all.new.journal.history c.args.script.now c.in_ok-is_refused.is_refused _ _ c.of.result whole (served.0, served.1, served.2) c.of.ensures.fault

pub returns-in_err-is_refused-clause-stops : goal.returns-in_err-is_refused-clause-stops
returns-in_err-is_refused-clause-stops g c = λ whole.
    let old = g.E.Write.contents c.args.messages.now.writer.now in
    let new = g.E.Write.contents c.serve_all.new.messages.writer.now in
    let fault = c.in_err-is_refused.field-0.0 in
    went c.from_residual.result fault (StopsScript c.args.options.now.session c.args.journal.now.history c.args.script.now old new) c.from_residual.ensures.1
    (λ rdl header session. stopped_serving c.args.options.now.session c.args.journal.now.history c.args.script.now old new rdl header session fault whole c.in_err-is_refused.ensures.stopped)

pub returns-clause-edited : goal.returns-clause-edited
returns-clause-edited g c =
    edits_script_if c.args.options.now.edited c.args.options.now.session c.args.journal.now.history c.serve_all.new.journal.history c.args.script.now (source_of c.args.bytes.now) c.in_ok-is_refused.is_refused _ _ _ _
    c.of.result c.in_ok-is_refused.ensures.served c.of.ensures.closes c.of.ensures.edited
