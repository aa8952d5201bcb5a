use Rattle.std.proofs.Common.{rules, ◌≡◌, ◌∙◌, ◌∷◌, [], Some, sym, option_copied}
use Rattle.rdl_scope.specs.Closed.{component}
use Rattle.rdl_elab.specs.Faults.{under_top}
use Rattle.rdl_elab.proofs.KeptAnswers.{judged-top}
use Rattle.rdl_elab.proofs.KnownRows.{no-fault}
use Rattle.rdl_elab.proofs.elaborate.known_rows.Goals as goal

pub unreachable-requires : goal.unreachable-requires
unreachable-requires c =
    let d = c.args.description.now.items in
    let wanted = option_copied c.args.wanted in
    let top = c.known_top-top.result in
    let answer : c.in_ok-rows.field-0 ≡ under_top d (top.0 ∷ []) top.1 (component d (top.0 ∷ [])) = search rules in
    no-fault d wanted c.requires c.in-Err.field-0
    (judged-top d wanted (Some top) c.known_top-top.ensures.faultless c.known_top-top.ensures.top ∙ sym answer ∙ c.in-Err.is)

pub returns : goal.returns
returns c =
    let d = c.args.description.now.items in
    let wanted = option_copied c.args.wanted in
    let top = c.known_top-top.result in
    let answer : c.in_ok-rows.field-0 ≡ under_top d (top.0 ∷ []) top.1 (component d (top.0 ∷ [])) = search rules in
    judged-top d wanted (Some top) c.known_top-top.ensures.faultless c.known_top-top.ensures.top ∙ sym answer ∙ c.in-Ok.is
