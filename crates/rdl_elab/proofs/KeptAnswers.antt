-- The answer by what is kept of the components is the answer by the definitions.
use Rattle.std.proofs.Common.{◌≡◌, ℕ, true, false, List, [], ◌∷◌, Option, Some, None, Result, Ok, Err, refl, ap, sym, ◌∙◌, arith, ◌⊎◌, inl, inr}
use Rattle.std.specs.Prelude.{slice_get}
use Rattle.std.specs.Option.{option_or, is_some}
use Rattle.std.specs.Prelude.{IfOk, IfErr}
use Rattle.rdl_tree.specs.Items.{Items}
use Rattle.rdl_tree.specs.declared.fault.Fault.{Fault}
use Rattle.rdl_scope.specs.ItemFaults.{fault_of}
use Rattle.rdl_scope.specs.Closed.{Made, component}
use Rattle.rdl_elab.specs.declared.layout.Mode.TheVariants.{Regalign}
use Rattle.rdl_elab.specs.declared.layout.Layout.{Layout}
use Rattle.rdl_elab.specs.declared.row.Location.TheVariants.{Bytes}
use Rattle.rdl_elab.specs.declared.row.Row.{Row}
use Rattle.rdl_elab.specs.declared.walk.finished.Finished.{Finished}
use Rattle.rdl_elab.specs.Layouts.{mode_inside}
use Rattle.rdl_elab.specs.Rows.{around_top, rows_below, rows_of, top_layout, top_row}
use Rattle.rdl_elab.specs.Faults.{first_row_fault, fault_of_top, rows_or, under_top, top_from, with_top, unless_fault, elaborated}
use Rattle.rdl_elab.specs.Finished.{IsFinished}
use Rattle.rdl_elab.specs.Reaches.{reaches, reaches_at}
use Rattle.rdl_elab.specs.FinishedRows.{Told, told, finished_rows, finished_top_row, finished_around_top, told_below, rows_unless, fault_or, finished_rows_or_fault, finished_answer}
use Rattle.rdl_scope.proofs.AsFound.{as_found}
use Rattle.rdl_elab.proofs.RowsAlong.{values-top, reaches-body}
use Rattle.rdl_elab.proofs.PartsFound.{parts-found}
use Rattle.rdl_elab.proofs.FieldsInside.{registers-hold-fields}
use Rattle.rdl_elab.proofs.Fitting.{FieldsIn, fits-inside}
use Rattle.rdl_elab.proofs.SameLevels.{told_judged, judged-fault, judged-rows, around_of, levels-same, level-same}
use Rattle.rdl_elab.proofs.MapLimits.{of_levels, of_empty, of_size, limits, limits-kept, few-levels, small, size-exact}

rows-after : (rows : List Row) (a b c r : Option Fault) → rows_or rows (option_or a (option_or b (option_or c r))) ≡ fault_or (option_or a (option_or b c)) (rows_or rows r)
rows-after rows None None None r = refl
rows-after rows None None (Some f) r = refl
rows-after rows None (Some f) c r = refl
rows-after rows (Some f) b c r = refl

module _ (d : Items) (n : ℕ) (name : List ℕ) (c : Made) (fs : List Finished) (number : ℕ) (none : fault_of d ≡ None) (made : component d (n ∷ []) ≡ Some c) (q : IsFinished d fs number c) where
  abbrev at : List ℕ
  at = n ∷ []

  abbrev f : Finished
  f = q.finished

  abbrev of_map : Option Fault
  of_map = limits n c

  module _ (clear : of_map ≡ None) where
    row-is : finished_top_row name f ≡ top_row d name c
    row-is = λ i.
        record {
          names = name ∷ [];
          kind = q.kept.kind i;
          base = 0;
          location = Bytes (record { offset = 0; size = size-exact n c d f q.kept clear i; dims = []; stride = size-exact n c d f q.kept clear i });
          values = (q.kept.shown ∙ values-top d at c made) i;
        }

    reaching-is : f.assignments.items ≡ reaches_at d at
    reaching-is = q.kept.assignments none (ap (component d) (as_found d at c made).place ∙ made) ∙ ap (λ b. reaches d b 0 c.head.body) (as_found d at c made).place ∙ sym (reaches-body d at c made)

    around-is : finished_around_top name f ≡ around_of d fs none at (around_top name c)
    around-is = λ i. record { mode = mode_inside (q.kept.kind i) (q.kept.values i) Regalign; names = name ∷ []; base = 0; bits = 0; reaching = reaching-is i }

    fields : FieldsIn c.head.kind c.parts
    fields = registers-hold-fields d at c none made

    below-is : told_below fs name f ≡ told_judged d (top_row d name c ∷ []) (rows_below d name c)
    below-is =
        (λ i. told (row-is i ∷ []) (finished_rows 16 fs (around-is i) (ap (λ (x : Layout). x.spans) (q.kept.layouts Regalign) i) f.parts.items))
        ∙ levels-same d fs none 16 c.parts (λ k. level-same d fs none c.parts k) at (around_top name c) c.head.kind (top_layout c).spans f.parts.items number (top_row d name c ∷ []) q.parts (parts-found d at c made) fields
        (fits-inside Regalign 0 c.head c.parts fields (inr (omega (arith, small n c clear)))) (omega arith) (few-levels n c clear)

    answer-is : rows_unless (told_below fs name f).fault (told_below fs name f).rows ≡ rows_or (rows_of d name c) (first_row_fault d (rows_below d name c))
    answer-is = ap (λ (t : Told). rows_unless t.fault t.rows) below-is ∙ ap (λ x. rows_unless x all.rows) (judged-fault d (top_row d name c ∷ []) (rows_below d name c)) ∙ by_fault (first_row_fault d (rows_below d name c)) refl
      where
        all : Told
        all = told_judged d (top_row d name c ∷ []) (rows_below d name c)

        by_fault : (x : Option Fault) → first_row_fault d (rows_below d name c) ≡ x → rows_unless x all.rows ≡ rows_or (rows_of d name c) x
        by_fault None e = ap Ok (judged-rows d (top_row d name c ∷ []) (rows_below d name c) e)
        by_fault (Some g) e = refl

  kept-is : finished_rows_or_fault fs at name f ≡ rows_or (rows_of d name c) (fault_of_top d at name c)
  kept-is =
      ap (λ x. fault_or x (rows_unless (told_below fs name f).fault (told_below fs name f).rows)) (limits-kept n c d f q.kept)
      ∙ by_fault of_map refl
      ∙ sym (rows-after (rows_of d name c) (of_levels n c) (of_empty c) (of_size n c) (first_row_fault d (rows_below d name c)))
    where
      by_fault : (x : Option Fault) → of_map ≡ x
          → fault_or x (rows_unless (told_below fs name f).fault (told_below fs name f).rows) ≡ fault_or x (rows_or (rows_of d name c) (first_row_fault d (rows_below d name c)))
      by_fault None e = answer-is e
      by_fault (Some g) e = refl

  pub answer-kept : finished_answer fs at name (slice_get fs number) ≡ under_top d at name (component d at)
  answer-kept = ap (finished_answer fs at name) q.there ∙ kept-is ∙ sym (ap (under_top d at name) made)

-- the same of what a walk found
pub answer-walked : (d : Items) (n : ℕ) (at name : List ℕ) (fs : List Finished) (number : ℕ) → fault_of d ≡ None → at ≡ n ∷ [] → is_some (component d (n ∷ [])) ≡ true
    → ((c : Made) → component d (n ∷ []) ≡ Some c → IsFinished d fs number c)
    → finished_answer fs at name (slice_get fs number) ≡ under_top d (n ∷ []) name (component d (n ∷ []))
answer-walked d n at name fs number none place there finished = ap (λ a. finished_answer fs a name (slice_get fs number)) place ∙ by_component (component d (n ∷ [])) refl
  where
    by_component : (o : Option Made) → component d (n ∷ []) ≡ o → finished_answer fs (n ∷ []) name (slice_get fs number) ≡ under_top d (n ∷ []) name (component d (n ∷ []))
    by_component None e = absurd (apart (sym (ap is_some e) ∙ there))
      where
        apart : false ≡ true → ⊥
        apart h = cc
    by_component (Some c) e = answer-kept d n name c fs number none e (finished c e)

-- a description whose items have no fault is judged under its top
pub judged-top : (d : Items) (wanted : Option (List ℕ)) (top : Option (ℕ × List ℕ)) → fault_of d ≡ None → top_from wanted 0 d ≡ top → elaborated d wanted ≡ with_top d top
judged-top d wanted top none e = ap (unless_fault d wanted) none ∙ ap (with_top d) e

pub if-rows : (result answer : Result (List Row) Fault) → result ≡ answer → IfOk answer (λ rows. result ≡ Ok rows)
if-rows result (Ok rows) e = e
if-rows result (Err f) e = tt

pub if-fault : (P : Fault → Type 0) (result answer : Result (List Row) Fault) → result ≡ answer → IfErr answer (λ f. (result ≡ Err f) ⊎ P f)
if-fault P result (Ok rows) e = tt
if-fault P result (Err f) e = inl e
