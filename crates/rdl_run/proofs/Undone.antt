-- The map behind the undo of an edit is the one before it.
use Rattle.std.proofs.Common.{◌≡◌, ◌+◌, ◌-◌, List, [], Some, Ok, sym, ap, ◌∙◌, subst, arith}
use Rattle.std.specs.Prelude.{slice_get}
use Rattle.std.proofs.lemmas.Option.{slice_get_within}
use Rattle.journal_core.specs.History.{IsAt, IsHistory, after_edit, after_undo}
use Rattle.journal_core.proofs.Runs.{kept-edit, same_item}
use Rattle.rdl_diff.specs.Written.{diff_text}
use Rattle.rdl_diff.specs.declared.choice.Choice.{Choice}
use Rattle.rdl_diff.proofs.RowPaths.{own-paths}
use Rattle.rdl_diff.proofs.SameLines.{itself-none}
use Rattle.rdl_edit.specs.Step.{State}
use Rattle.rdl_elab.specs.Faults.{elaborated}
use Rattle.rdl_elab.specs.declared.row.Row.{Row}
use Rattle.rdl_rewrite.specs.declared.edit.Edit.{Edit}
use Rattle.rdl_run.specs.Answers.{History', Made}

undone : (old mid : History') (e : Edit) (before after : State) → Made old e mid → IsAt old before → IsAt (after_undo mid) after → after ≡ before
undone old mid e before after made at back =
    let edits = made.made in
    let to : State = edits.to in
    let inside : IsHistory old = slice_get_within old.states old.place before at in
    let place : old.place + 1 - 1 ≡ old.place = omega arith in
    let same : slice_get (after_edit old to).states old.place ≡ slice_get old.states old.place = same_item (after_edit old to).states old.states old.place (kept-edit old to inside) in
    let there : IsAt (after_undo (after_edit old to)) after = subst (λ (h : History'). IsAt (after_undo h) after) edits.edited back in
    let both : Some after ≡ Some before = sym there ∙ ap (slice_get (after_edit old to).states) place ∙ same ∙ at in
    cc

pub undone-none : (old mid : History') (e : Edit) (before after : State) (c : Choice) (old_rows new_rows : List Row) → Made old e mid → IsAt old before → IsAt (after_undo mid) after
    → elaborated before.description before.option ≡ Ok old_rows → elaborated after.description after.option ≡ Ok new_rows → diff_text c old_rows new_rows ≡ []
undone-none old mid e before after c old_rows new_rows made at back of_old of_new =
    let same : after ≡ before = undone old mid e before after made at back in
    let answers = sym of_new ∙ ap (λ (s : State). elaborated s.description s.option) same ∙ of_old in
    let rows : new_rows ≡ old_rows = cc in
    ap (λ (rs : List Row). diff_text c rs new_rows) (sym rows) ∙ itself-none c new_rows (own-paths after.description after.option new_rows of_new)
