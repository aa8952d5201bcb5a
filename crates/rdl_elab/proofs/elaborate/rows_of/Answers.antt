use Rattle.std.proofs.Common.{rules, ◌≡◌, sym, subst, Some, slice_get, IfOk}
use Rattle.rdl_elab.specs.FinishedRows.{finished_answer}
use Rattle.rdl_elab.proofs.elaborate.rows_of.Goals as goal

pub returns-in-Some : goal.returns-in-Some
returns-in-Some c =
    let fs = c.args.components.now in
    let there : slice_get fs c.args.number ≡ Some c.in-Some.top.now = search rules in
    subst (λ o. IfOk c.rows_or_fault.result (λ answer. answer ≡ finished_answer fs c.args.at.now c.args.name.now o)) (sym there) c.rows_or_fault.ensures
