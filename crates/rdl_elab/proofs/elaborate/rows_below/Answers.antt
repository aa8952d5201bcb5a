use Rattle.std.proofs.Common.{rules, ◌≡◌, ap, ◌∙◌, Some, None, Ok, Err}
use Rattle.rdl_elab.specs.FinishedRows.{told, finished_rows}
use Rattle.rdl_elab.proofs.Telling.{told-answer}
use Rattle.rdl_elab.proofs.elaborate.rows_below.Goals as goal

pub returns-in-Some : goal.returns-in-Some
returns-in-Some c =
    let f = c.args.top.now in
    let told-them : record { fault = Some c.in-Some.fault; rows = c.add_rows.new.rows.items } ≡ told c.in_ok-rows.rows.items (finished_rows 16 c.args.components.now c.in_ok-around.around f.layouts.regalign.spans f.parts.items) = search rules in
    ap Err c.to_fault.ensures ∙ told-answer c.args.components.now c.args.name.now f c.in_ok-rows.rows.items c.in_ok-around.around (Some c.in-Some.fault) c.add_rows.new.rows.items (search rules) (search rules) told-them

pub returns-in-None : goal.returns-in-None
returns-in-None c =
    let f = c.args.top.now in
    let told-them : record { fault = None; rows = c.add_rows.new.rows.items } ≡ told c.in_ok-rows.rows.items (finished_rows 16 c.args.components.now c.in_ok-around.around f.layouts.regalign.spans f.parts.items) = search rules in
    ap Ok c.from_vec.ensures ∙ told-answer c.args.components.now c.args.name.now f c.in_ok-rows.rows.items c.in_ok-around.around None c.add_rows.new.rows.items (search rules) (search rules) told-them
