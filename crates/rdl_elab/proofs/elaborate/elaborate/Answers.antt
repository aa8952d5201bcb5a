use Rattle.std.proofs.Common.{rules, ◌≡◌, ◌∙◌, ◌∷◌, [], sym, Some, option_copied}
use Rattle.rdl_scope.specs.ItemFaults.{out_of_memory}
use Rattle.rdl_scope.specs.Closed.{component}
use Rattle.rdl_elab.specs.Faults.{elaborated, under_top}
use Rattle.rdl_elab.proofs.KeptAnswers.{judged-top, if-rows, if-fault}
use Rattle.rdl_elab.proofs.elaborate.elaborate.Goals as goal

pub returns-in-Ok-clause-ok : goal.returns-in-Ok-clause-ok
returns-in-Ok-clause-ok c =
    let d = c.args.description.now.items in
    let wanted = option_copied c.args.top in
    let top = c.in_ok-top.top in
    let answer : c.in-Ok.answer ≡ under_top d (top.0 ∷ []) top.1 (component d (top.0 ∷ [])) = search rules in
    if-rows (elaborated d wanted) c.in-Ok.answer (judged-top d wanted (Some top) c.in_ok-top.ensures.faultless c.in_ok-top.ensures.top ∙ sym answer)

pub returns-in-Ok-clause-err : goal.returns-in-Ok-clause-err
returns-in-Ok-clause-err c =
    let d = c.args.description.now.items in
    let wanted = option_copied c.args.top in
    let top = c.in_ok-top.top in
    let answer : c.in-Ok.answer ≡ under_top d (top.0 ∷ []) top.1 (component d (top.0 ∷ [])) = search rules in
    if-fault (λ f. f ≡ out_of_memory) (elaborated d wanted) c.in-Ok.answer (judged-top d wanted (Some top) c.in_ok-top.ensures.faultless c.in_ok-top.ensures.top ∙ sym answer)
