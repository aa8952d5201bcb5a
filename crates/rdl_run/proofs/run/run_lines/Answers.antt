use Rattle.std.proofs.Common.{IfOk, string_bytes, subst, ap, ◌∙◌}
use Rattle.std.specs.Prelude.{◌&&◌, IfErr}
use Rattle.std.specs.Option.{option_copied}
use Rattle.rdl_run.specs.ClosedRuns.{ClosesScript, StopsRun, StopsScript}
use Rattle.rdl_run.specs.Edited.{EditsScript}
use Rattle.rdl_run.specs.Missing.{has_session}
use Rattle.rdl_run.specs.Opening.{OpensHistory, RefusesToOpen}
use Rattle.rdl_run.specs.OpeningFaults.{IfRefusedToOpen}
use Rattle.rdl_run.specs.Output.{outputs}
use Rattle.rdl_run.specs.OwnSteps.{AllOwn, OpensKept}
use Rattle.rdl_run.specs.Saved.{IsKept}
use Rattle.rdl_run.specs.Sources.{kept_source, source_of, without_source}
use Rattle.rdl_run.specs.declared.open.OpenFault.TheVariants.{Refused}
use Rattle.rdl_run.specs.declared.status.RunFault.TheVariants.{Memory}
use Rattle.rdl_run.proofs.Besides.{makes_if, makes_none}
use Rattle.rdl_run.proofs.RunLemmas.{closes_if, closes_refused}
use Rattle.rdl_run.proofs.Stopped.{stops_if, went, not_write, memory≢write, unwritten}
use Rattle.rdl_run.proofs.WholeInput.{on_ok, within}
use Rattle.rdl_run.proofs.run.run_lines.Goals as goal

pub returns-in-Err-Refused-clause-closes : goal.returns-in-Err-Refused-clause-closes
returns-in-Err-Refused-clause-closes g c =
    let message = c.in-Err-Refused.message in
    let session = c.without_source.ensures ∙ ap without_source c.as_slice.ensures.value in
    let refusal : IfRefusedToOpen (Refused message) (RefusesToOpen (option_copied c.as_ref.result) c.without_source.result.now) =
    subst (λ f. IfRefusedToOpen f (RefusesToOpen (option_copied c.as_ref.result) c.without_source.result.now)) c.in-Err-Refused.field-0-is c.in-Err-Refused.ensures.refused in
    let refused : RefusesToOpen c.args.options.now.top (without_source c.in_ok-map_bytes.map_bytes.items) (string_bytes message) =
    subst (λ o. RefusesToOpen o (without_source c.in_ok-map_bytes.map_bytes.items) (string_bytes message)) c.as_ref.ensures.value
    (subst (λ bytes. RefusesToOpen (option_copied c.as_ref.result) bytes (string_bytes message)) session refusal) in
    closes_refused c.args.options.now _ _ c.in_ok-map_bytes.map_bytes.items c.in_ok-script_bytes.script_bytes.items (string_bytes message) _ _ c.refused.result
    c.in_ok-map_bytes.ensures.bytes c.in_ok-script_bytes.ensures.bytes refused c.refused.ensures.message c.refused.ensures.rdl c.refused.ensures.header c.refused.ensures.session c.refused.ensures.status

pub returns-in-Ok-clause-closes : goal.returns-in-Ok-clause-closes
returns-in-Ok-clause-closes g c =
    let options = c.args.options.now in
    let old = g.E.Write.contents c.args.messages.now.writer.now in
    let new = g.E.Write.contents c.run_script.new.messages.writer.now in
    let map_bytes = c.in_ok-map_bytes.map_bytes.items in
    let session = c.without_source.ensures ∙ ap without_source c.as_slice.ensures.value in
    let k = c.in-Ok.shown.0 in
    let kept : OpensKept options.top options.history (without_source map_bytes) k =
    subst (λ o. OpensKept o options.history (without_source map_bytes) k) c.as_ref.ensures.value
    (subst (λ bytes. OpensKept (option_copied c.as_ref.result) options.history bytes k) session c.in-Ok.ensures.kept) in
    let closes : IfOk c.run_script.result (ClosesScript (AllOwn k) options.session k.history c.in_ok-script_bytes.script_bytes.items old new c.args.messages.now.counts c.run_script.new.messages.counts) =
    subst (λ bytes. IfOk c.run_script.result (ClosesScript (AllOwn k) options.session k.history bytes old new c.args.messages.now.counts c.run_script.new.messages.counts)) c.as_slice-in-Ok-2.ensures.value c.run_script.ensures.closes in
    closes_if options _ _ map_bytes _ k old new c.args.messages.now.counts c.run_script.new.messages.counts c.run_script.result c.in_ok-map_bytes.ensures.bytes c.in_ok-script_bytes.ensures.bytes kept closes

pub returns-in-Ok-clause-stops : goal.returns-in-Ok-clause-stops
returns-in-Ok-clause-stops g c =
    let options = c.args.options.now in
    let old = g.E.Write.contents c.args.messages.now.writer.now in
    let new = g.E.Write.contents c.run_script.new.messages.writer.now in
    let map_bytes = c.in_ok-map_bytes.map_bytes.items in
    let session = c.without_source.ensures ∙ ap without_source c.as_slice.ensures.value in
    let first = c.in-Ok.shown.0.history in
    let opens : OpensHistory options.top options.history (without_source map_bytes) first =
    subst (λ o. OpensHistory o options.history (without_source map_bytes) first) c.as_ref.ensures.value
    (subst (λ bytes. OpensHistory (option_copied c.as_ref.result) options.history bytes first) session c.in-Ok.ensures.opens) in
    let stops : IfErr c.run_script.result (StopsScript options.session first c.in_ok-script_bytes.script_bytes.items old new) =
    subst (λ bytes. IfErr c.run_script.result (StopsScript options.session first bytes old new)) c.as_slice-in-Ok-2.ensures.value (c.run_script.ensures.stops c.in-Ok.ensures.elaborates) in
    stops_if options _ _ map_bytes _ first old new c.run_script.result c.in_ok-map_bytes.ensures.bytes c.in_ok-script_bytes.ensures.bytes opens stops

pub returns-in-Ok-clause-beside : goal.returns-in-Ok-clause-beside
returns-in-Ok-clause-beside g c =
    let options = c.args.options.now in
    let map_bytes = c.in_ok-map_bytes.map_bytes.items in
    let script_bytes = c.in_ok-script_bytes.script_bytes.items in
    let session = c.without_source.ensures ∙ ap without_source c.as_slice.ensures.value in
    let first = c.in-Ok.shown.0.history in
    let opens : OpensHistory options.top options.history (without_source map_bytes) first =
    subst (λ o. OpensHistory o options.history (without_source map_bytes) first) c.as_ref.ensures.value
    (subst (λ bytes. OpensHistory (option_copied c.as_ref.result) options.history bytes first) session c.in-Ok.ensures.opens) in
    let edits : IfOk c.run_script.result (λ x. EditsScript options.edited first script_bytes (source_of map_bytes) (string_bytes x.rdl) x.edited) =
    subst (λ bytes. IfOk c.run_script.result (λ x. EditsScript options.edited first script_bytes (source_of bytes) (string_bytes x.rdl) x.edited)) c.as_slice-in-Ok.ensures.value
    (subst (λ bytes. IfOk c.run_script.result (λ x. EditsScript options.edited first bytes (source_of c.as_slice-in-Ok.result.now) (string_bytes x.rdl) x.edited)) c.as_slice-in-Ok-2.ensures.value c.run_script.ensures.edited) in
    let kept : IfOk c.run_script.result (λ x. IsKept (kept_source (options.session && has_session x.status) options.edited map_bytes) (string_bytes x.session) x.saved) =
    subst (λ bytes. IfOk c.run_script.result (λ x. IsKept (kept_source (options.session && has_session x.status) options.edited bytes) (string_bytes x.session) x.saved)) c.as_slice-in-Ok.ensures.value c.run_script.ensures.saved in
    makes_if options (g.M.Read.remaining c.args.map.now.reader.now) (g.S.Read.remaining c.args.script.now.reader.now) map_bytes script_bytes
    c.in_ok-map_bytes.ensures.bytes c.in_ok-script_bytes.ensures.bytes first c.run_script.result opens edits kept

pub returns-in-Err-Refused-clause-beside : goal.returns-in-Err-Refused-clause-beside
returns-in-Err-Refused-clause-beside g c =
    makes_none c.args.options.now (g.M.Read.remaining c.args.map.now.reader.now) (g.S.Read.remaining c.args.script.now.reader.now) c.in_ok-map_bytes.map_bytes.items c.in_ok-script_bytes.script_bytes.items
    c.in_ok-map_bytes.ensures.bytes c.in_ok-script_bytes.ensures.bytes c.refused.result c.refused.ensures.status c.refused.ensures.edited c.refused.ensures.saved

pub returns-in-Ok-clause-bound : goal.returns-in-Ok-clause-bound
returns-in-Ok-clause-bound g c = on_ok c.run_script.result (
  within (g.M.Read.remaining c.args.map.now.reader.now) c.in_ok-map_bytes.map_bytes.items c.in_ok-map_bytes.ensures.bytes c.in_ok-map_bytes.ensures.bound,
  within (g.S.Read.remaining c.args.script.now.reader.now) c.in_ok-script_bytes.script_bytes.items c.in_ok-script_bytes.ensures.bytes c.in_ok-script_bytes.ensures.bound,
)

pub returns-in_err-map_bytes-clause-stops : goal.returns-in_err-map_bytes-clause-stops
returns-in_err-map_bytes-clause-stops g c =
    let options = c.args.options.now in
    let map = g.M.Read.remaining c.args.map.now.reader.now in
    let script = g.S.Read.remaining c.args.script.now.reader.now in
    let messages = g.E.Write.contents c.args.messages.now.writer.now in
    let fault = c.in_err-map_bytes.field-0.0 in
    went c.from_residual.result fault (StopsRun options map script messages messages) c.from_residual.ensures.1
    (λ rdl header session. unwritten options map script fault (outputs messages rdl header session) (not_write fault c.in_err-map_bytes.ensures.no_write))

pub returns-in_err-script_bytes-clause-stops : goal.returns-in_err-script_bytes-clause-stops
returns-in_err-script_bytes-clause-stops g c =
    let options = c.args.options.now in
    let map = g.M.Read.remaining c.args.map.now.reader.now in
    let script = g.S.Read.remaining c.args.script.now.reader.now in
    let messages = g.E.Write.contents c.args.messages.now.writer.now in
    let fault = c.in_err-script_bytes.field-0.0 in
    went c.from_residual-in_err-script_bytes.result fault (StopsRun options map script messages messages) c.from_residual-in_err-script_bytes.ensures.1
    (λ rdl header session. unwritten options map script fault (outputs messages rdl header session) (not_write fault c.in_err-script_bytes.ensures.no_write))

pub returns-clause-stops : goal.returns-clause-stops
returns-clause-stops g c = λ rdl header session.
    unwritten c.args.options.now (g.M.Read.remaining c.args.map.now.reader.now) (g.S.Read.remaining c.args.script.now.reader.now) Memory (outputs (g.E.Write.contents c.args.messages.now.writer.now) rdl header session) memory≢write
