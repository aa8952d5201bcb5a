-- What each accepted edit, undo and redo leaves as it was stays along a history.
use Rattle.std.proofs.Common.{◌≡◌, List, [], ◌∷◌, refl, ap, ◌∙◌}
use Rattle.journal_core.specs.History.{History, Edits, after_undo, after_redo}
use Rattle.rdl_rewrite.specs.declared.edit.Edit.{Edit}
use Rattle.rdl_edit.specs.Step.{State, Leads}
use Rattle.run_laws.specs.Histories.{Action, edit, undo, redo, Follows}

stays : {A : Type 0} (part : History State → A) → ((e : Edit) (old new : History State) → Edits Leads e old new → part new ≡ part old)
    → ((h : History State) → part (after_undo h) ≡ part h) → ((h : History State) → part (after_redo h) ≡ part h)
    → (old new : History State) (actions : List Action) → Follows old actions new → part new ≡ part old
stays part edited undone redone old new [] h = ap part h
stays part edited undone redone old new (edit e ∷ actions) h = stays part edited undone redone h.0 new actions h.2 ∙ edited e old h.0 h.1
stays part edited undone redone old new (undo ∷ actions) h = stays part edited undone redone h.0 new actions h.2 ∙ (ap part h.1 ∙ undone old)
stays part edited undone redone old new (redo ∷ actions) h = stays part edited undone redone h.0 new actions h.2 ∙ (ap part h.1 ∙ redone old)

-- how many edits can be undone
pub limit-stays : (old new : History State) (actions : List Action) → Follows old actions new → new.limit ≡ old.limit
limit-stays = stays (λ k. k.limit) (λ e old new h. ap (λ (k : History State). k.limit) h.edited) (λ h. refl) (λ h. refl)

-- whether all steps are of edits
pub own-stays : (old new : History State) (actions : List Action) → Follows old actions new → new.own ≡ old.own
own-stays = stays (λ k. k.own) (λ e old new h. ap (λ (k : History State). k.own) h.edited) (λ h. refl) (λ h. refl)
