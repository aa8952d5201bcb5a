-- Steps of a map that edits left behind: that of an edit takes it back, and what is taken back can be made again.
use Rattle.std.proofs.Common.{◌≡◌, inl, inr, List, sym, ap, ◌∙◌, subst}
use Rattle.rdl_tree.specs.Patch.{image, inverses}
use Rattle.rdl_tree.specs.declared.patch.Patch.{Patch}
use Rattle.rdl_tree.proofs.Patching.{image-inverses, inverses-inverses}
use Rattle.rdl_rewrite.specs.Patches.{patches}
use Rattle.rdl_rewrite.specs.declared.edit.Edit.{Edit}
use Rattle.rdl_edit.specs.OfEdits.{IsOfEdit}
use Rattle.rdl_edit.specs.Step.{State, HasRows, Leads}
use Rattle.rdl_edit.proofs.EditsLead.{edit-fits, edit-leads}

-- what takes an edit back leads to the map before it
pub back-there : (old : State) (e : Edit) (new : State) → HasRows old → Leads old e new → record { description = image (inverses (patches old.description e) old.description) new.description; option = new.option } ≡ old
back-there old e new rows led =
    let d = old.description in
    let ps = patches d e in
    let to = edit-leads old e new rows led in
    ap (λ (s : State). record { description = image (inverses ps d) s.description; option = s.option }) to
    ∙ ap (λ t. record { description = t; option = old.option }) (image-inverses ps d (edit-fits old e new rows led))

-- the inverses of a step that an edit left behind are one at the map to which it leads
pub turned : (s : State) (step : List Patch) → HasRows s → IsOfEdit s step → IsOfEdit (record { description = image step s.description; option = s.option }) (inverses step s.description)
turned s step rows (inl m) =
    let same : m.new ≡ record { description = image step s.description; option = s.option } =
    edit-leads s m.edit m.new rows m.led ∙ ap (λ ps. record { description = image ps s.description; option = s.option }) (sym m.are) in
    inr (record { edit = m.edit; old = s; has_rows = rows; led = subst (Leads s m.edit) same m.led; are = ap (λ ps. inverses ps s.description) m.are })
turned s step rows (inr t) =
    let d = t.old.description in
    let ps = patches d t.edit in
    let to = edit-leads t.old t.edit s t.has_rows t.led in
    let here : record { description = image step s.description; option = s.option } ≡ t.old =
    ap (λ qs. record { description = image qs s.description; option = s.option }) t.are ∙ back-there t.old t.edit s t.has_rows t.led in
    let again : inverses step s.description ≡ ps =
    ap (λ qs. inverses qs s.description) t.are ∙ ap (λ (x : State). inverses (inverses ps d) x.description) to ∙ inverses-inverses ps d (edit-fits t.old t.edit s t.has_rows t.led) in
    subst (λ x. IsOfEdit x (inverses step s.description)) (sym here) (inl (record { edit = t.edit; new = s; led = t.led; are = again }))
