use Rattle.std.proofs.Common.{map, ◌∙◌}
use Rattle.std.specs.Option.{option_copied}
use Rattle.rdl_run.proofs.Opened.{read-each, not-read, unresumed_session, resumes}
use Rattle.rdl_run.proofs.open.resumed.Goals as goal

pub returns-in-Err-clause-refused : goal.returns-in-Err-clause-refused
returns-in-Err-clause-refused c = not-read (option_copied c.args.name) c.args.bytes.now c.in-Err.fault c.in-Err.ensures.refused

pub returns-in-Err-resume-clause-refused : goal.returns-in-Err-resume-clause-refused
returns-in-Err-resume-clause-refused c =
    let session = c.in-Ok.session in
    unresumed_session (option_copied c.args.name) c.args.bytes.now c.in-Ok-copied.name session.map.items (map (λ step. step.items) session.undo.items) (map (λ step. step.items) session.redo.items)
    c.in-Err-resume.fault c.unresumed.result c.in-Ok.ensures.read c.in-Ok-copied.ensures c.in-Err-resume.ensures.refused c.unresumed.ensures

pub returns-in-Ok-resume-clause-resumed : goal.returns-in-Ok-resume-clause-resumed
returns-in-Ok-resume-clause-resumed c =
    let session = c.in-Ok.session in
    let undo = map (λ step. step.items) session.undo.items in
    let redo = map (λ step. step.items) session.redo.items in
    resumes (option_copied c.args.name) c.in-Ok-copied.name c.args.bytes.now session.map.items undo redo c.in-Ok-resume.resumed c.in-Ok.ensures.read c.in-Ok-copied.ensures
    c.in-Ok-resume.ensures.map c.in-Ok-resume.ensures.accepted (c.in-Ok-resume.ensures.undo ∙ read-each (λ step. step.items) session.undo.items) (c.in-Ok-resume.ensures.redo ∙ read-each (λ step. step.items) session.redo.items)
    c.in-Ok-resume.ensures.undo_fits c.in-Ok-resume.ensures.redo_fits
