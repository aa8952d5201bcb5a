use Rattle.std.proofs.Common.{◌≡◌, true, ap, subst, sym, ◌∙◌}
use Rattle.std.specs.List.{position}
use Rattle.std.specs.Prelude.{is_ok}
use Rattle.std.proofs.lemmas.Result.{IfOk-weaker, IfErr-weaker}
use Rattle.rdl_tree.specs.View.{list_of}
use Rattle.rdl_rewrite.specs.Change.{edited_body}
use Rattle.rdl_rewrite.specs.Dynamics.{assigns_to, unassigned}
use Rattle.rdl_rewrite.specs.Patches.{body_patches, drop_at}
use Rattle.rdl_rewrite.specs.Refuses.{Refuses}
use Rattle.rdl_rewrite.specs.declared.edit.Edit.{Edit}
use Rattle.rdl_rewrite.proofs.body.body_patches.Goals as goal

pub returns-in-Unassign-clause-which : goal.returns-in-Unassign-clause-which
returns-in-Unassign-clause-which c =
    let is = c.in-Unassign in
    let body = c.args.body.now in
    let by_edit = λ (e : Edit). body_patches c.args.way.now c.args.number e body in
    IfOk-weaker c.unassign.result
    (λ ps. ps.items ≡ drop_at c.args.way.now (position (assigns_to is.target is.property) (list_of body)))
    (λ ps. ps.items ≡ by_edit c.args.edit.now)
    (λ _ which. which ∙ sym (ap by_edit is.is))
    c.unassign.ensures.which

pub returns-in-Unassign-clause-accepted : goal.returns-in-Unassign-clause-accepted
returns-in-Unassign-clause-accepted c =
    let is = c.in-Unassign in
    let body = c.args.body.now in
    let by_edit = λ (e : Edit). edited_body c.args.whole.now c.args.number e body in
    IfOk-weaker c.unassign.result
    (λ _. is_ok (unassigned is.target is.property body) ≡ true)
    (λ _. is_ok (by_edit c.args.edit.now) ≡ true)
    (λ _ made. ap (λ e. is_ok (by_edit e)) is.is ∙ made)
    c.unassign.ensures.accepted

pub returns-in-Unassign-clause-refused : goal.returns-in-Unassign-clause-refused
returns-in-Unassign-clause-refused c =
    let is = c.in-Unassign in
    let body = c.args.body.now in
    let by_edit = λ (e : Edit). edited_body c.args.whole.now c.args.number e body in
    IfErr-weaker c.unassign.result
    (λ refusal. Refuses (unassigned is.target is.property body) refusal)
    (λ refusal. Refuses (by_edit c.args.edit.now) refusal)
    (λ refusal refused. subst (λ expected. Refuses expected refusal) (sym (ap by_edit is.is)) refused)
    c.unassign.ensures.refused
