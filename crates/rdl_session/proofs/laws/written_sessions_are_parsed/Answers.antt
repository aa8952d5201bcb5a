use Rattle.std.proofs.Common.{rules, ◌≤◌, ◌∙◌, length, map}
use Rattle.rdl_session.specs.Text.{max_session}
use Rattle.rdl_session.proofs.Saved.{text-spells}
use Rattle.rdl_session.proofs.laws.written_sessions_are_parsed.Goals as goal

pub returns-in-Ok : goal.returns-in-Ok
returns-in-Ok c = λ h u r.
    let d = c.args.description.now.items in
    let undo = map (λ step. step.now) c.args.undo.now in
    let redo = map (λ step. step.now) c.args.redo.now in
    let short : length c.as_str.result.now ≤ max_session = search rules in
    let spells = text-spells c.as_str.result.now d undo redo (c.as_str.ensures.value ∙ c.in-Ok.ensures.ok) c.as_str.utf8 short h u r in
    c.parse_session.ensures.only d undo redo spells
