use Rattle.std.proofs.Common.{sym, ◌∙◌, rules, inr}
use Rattle.std.specs.Option.{option_copied}
use Rattle.rdl_run.specs.Opening.{Opens}
use Rattle.rdl_run.proofs.Opened.{map-kept, opened-unnamed}
use Rattle.rdl_run.proofs.Openings.{opened-elaborates}
use Rattle.rdl_run.proofs.open.open_shown.Goals as goal

pub returns-in-Ok-clause-elaborates : goal.returns-in-Ok-clause-elaborates
returns-in-Ok-clause-elaborates c = opened-elaborates (option_copied c.args.name) c.args.limit c.args.bytes.now c.in-Ok.journal.history (inr c.in-Ok.ensures.opens)

pub returns-in-Ok-open_map-clause-kept : goal.returns-in-Ok-open_map-clause-kept
returns-in-Ok-open_map-clause-kept c =
    let opens : Opens (option_copied c.args.name) c.args.bytes.now c.in-Ok-open_map.map.state = search rules in
    map-kept (option_copied c.args.name) c.args.limit c.args.bytes.now c.in-Ok-open_map.map.state c.new.result
    (opened-unnamed (option_copied c.args.name) c.args.limit c.args.bytes.now c.in-Ok-open_map.map.state (sym c.is_session.ensures ∙ c.if-is_session.false) opens) c.new.ensures
