use Rattle.std.proofs.Common.{rules, ◌≡◌, ℕ, ap, ◌∷◌, [], refl, subst, true, List, Some, IfOk}
use Rattle.std.specs.Prelude.{IfSome, slice_get}
use Rattle.std.specs.Option.{is_some}
use Rattle.rdl_scope.specs.Closed.{Made, component}
use Rattle.rdl_elab.specs.Finished.{IsFinished}
use Rattle.rdl_elab.specs.FinishedRows.{finished_answer}
use Rattle.rdl_elab.specs.declared.walk.finished.Finished.{Finished}
use Rattle.rdl_elab.proofs.KeptAnswers.{answer-walked}
use Rattle.rdl_elab.proofs.elaborate.under_top.Goals as goal

pub returns-in-Some : goal.returns-in-Some
returns-in-Some c =
    let d = c.args.description.now.items in
    let n = c.args.top.now.0 in
    let name = c.args.top.now.1 in
    let w = c.in-Some.walked in
    let number : c.top.inside.number ≡ n = ap (λ (t : ℕ × List ℕ). t.0) c.top.view_is in
    let is_there : is_some (component d (c.top.inside.number ∷ [])) ≡ true = search rules in
    let there : is_some (component d (n ∷ [])) ≡ true = subst (λ k. is_some (component d (k ∷ [])) ≡ true) number is_there in
    let found : ((m : Made) → component d (c.top.inside.number ∷ []) ≡ Some m → IsFinished d w.components.items w.number m) =
    subst (λ o. IfSome o (λ x. (m : Made) → component d (c.top.inside.number ∷ []) ≡ Some m → IsFinished d x.components.items x.number m)) c.in-Some.is c.in_ok-walked.ensures.finished in
    let finished = subst (λ k. (m : Made) → component d (k ∷ []) ≡ Some m → IsFinished d w.components.items w.number m) number found in
    let kept = subst (λ (fs : List Finished). IfOk c.rows_under.result (λ answer. answer ≡ finished_answer fs (n ∷ []) name (slice_get fs w.number))) c.as_slice-components.ensures.value c.rows_under.ensures in
    subst (λ x. IfOk c.rows_under.result (λ answer. answer ≡ x)) (answer-walked d n (n ∷ []) name w.components.items w.number c.requires.faultless refl there finished) kept
