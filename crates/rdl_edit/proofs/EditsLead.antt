-- The patches of an accepted edit of a map that has rows fit, and lead to the map that the edit makes.
use Rattle.std.proofs.Common.{◌≡◌, ◌⊎◌, inl, inr, ℕ, ◌≤◌, ◌<◌, Bool, true, false, cond, ◌||◌, List, length, Option, Some, None, Result, Ok, Err, refl, sym, ap, ◌∙◌, subst, arith, is_ok}
use Rattle.std.specs.Prelude.{nat_lt, ◌==◌}
use Rattle.std.proofs.lemmas.Bool.{ltb-false, cases_lt}
use Rattle.rdl_tree.specs.Address.{holder_of, number_of, body_at}
use Rattle.rdl_tree.specs.Depth.{depth}
use Rattle.rdl_tree.specs.Find.{find}
use Rattle.rdl_tree.specs.Items.{Items, count}
use Rattle.rdl_tree.specs.Patch.{AllFit, image}
use Rattle.rdl_tree.specs.Weight.{weight}
use Rattle.rdl_tree.specs.declared.fault.Fault.{Fault}
use Rattle.rdl_tree.specs.declared.path.PathFault.{PathFault}
use Rattle.rdl_elab.specs.Faults.{elaborated}
use Rattle.rdl_elab.specs.declared.row.Row.{Row}
use Rattle.rdl_rewrite.specs.Change.{edited_body}
use Rattle.rdl_rewrite.specs.Patches.{level_in, level_on, patches_on, patches}
use Rattle.rdl_rewrite.specs.Refuses.{MakesTooDeep, RefusesEdit}
use Rattle.rdl_rewrite.specs.Rewritten.{path_of, refusal_of as of_path, put_body, change_body, at_body, by_way, rewritten}
use Rattle.rdl_rewrite.specs.declared.edit.Edit.{Edit}
use Rattle.rdl_rewrite.specs.declared.edit.Edit.TheVariants.{Add, Remove, Rename, Move, Resize, SetBits, SetAddress, SetStride, SetAlign, SetReset, SetOwn, SetDefault, ClearOwn, ClearDefault, Assign, Unassign}
use Rattle.rdl_rewrite.specs.declared.edit.PatchRefusal.{PatchRefusal}
use Rattle.rdl_rewrite.specs.declared.edit.PatchRefusal.TheVariants.{NotAnInstance, TooDeep}
use Rattle.rdl_rewrite.proofs.Made.{patches_made, patches_fit, too_deep}
use Rattle.rdl_edit.specs.Step.{State, HasRows, judged, judged_anew, step}
use Rattle.rdl_elab.proofs.KnownRows.{first-false, not-large}
use Rattle.rdl_edit.proofs.Placings.{faultless}

-- ---- A map that has rows nests at most 16 deep.

pub rows-deep : (s : State) → HasRows s → depth s.description ≤ 16
rows-deep s h =
    let d = s.description in
    let small = not-large d (faultless d s.option h.rows h.are) in
    ltb-false 16 (depth d) (first-false (nat_lt 16 (depth d)) (nat_lt 65536 (count d)) (first-false (nat_lt 16 (depth d) || nat_lt 65536 (count d)) (nat_lt 8388608 (weight d)) small))

-- ---- What an accepted edit says.

pub record Stepped (old : State) (e : Edit) (new : State) : Type 0 where
  pub made : rewritten old.description e ≡ Ok new.description
  pub same_option : new.option ≡ old.option
  pub rows : HasRows new

pub steps : (old : State) (e : Edit) (new : State) → step old e ≡ Ok new → Stepped old e new
steps old e new led = by (rewritten old.description e) refl led
  where
    of-rows : (d : Items) (r : Result (List Row) Fault) → rewritten old.description e ≡ Ok d → elaborated d old.option ≡ r → judged (record { description = d; option = old.option }) r ≡ Ok new → Stepped old e new
    of-rows d (Ok rows) made are m =
        let same : record { description = d; option = old.option } ≡ new = cc in
        subst (Stepped old e) same (record { made = made; same_option = refl; rows = record { rows = rows; are = are } })
    of-rows d (Err fault) made are m = cc

    by : (r : Result Items PatchRefusal) → rewritten old.description e ≡ r → judged_anew old.option r ≡ Ok new → Stepped old e new
    by (Ok d) made m = of-rows d (elaborated d old.option) made refl m
    by (Err refusal) made m = cc

pub same-made : (d new : Items) (r : Result Items PatchRefusal) → r ≡ Ok d → r ≡ Ok new → d ≡ new
same-made d new r e f = let both = sym e ∙ f in cc

-- ---- An edit between maps that nest at most 16 deep reaches no deeper.

not-deep : (d new : Items) (r : Result Items PatchRefusal) → r ≡ Ok new → depth d ≤ 16 → depth new ≤ 16 → RefusesEdit d r TooDeep → ⊥
not-deep d new r made low shallow (inl refuses) = refuses
not-deep d new r made low shallow (inr t) = by t.deep
  where
    by : (16 < depth d) ⊎ MakesTooDeep r → ⊥
    by (inl deep) = omega (arith, deep, low)
    by (inr m) = omega (arith, m.deep, shallow, ap depth (same-made m.new new r m.made made))

body-level : (way : List ℕ) (n : ℕ) (d new : Items) (e : Edit) → at_body way d (edited_body d n e) ≡ Ok new → depth d ≤ 16 → depth new ≤ 16 → level_in way e ≤ 16
body-level way n d new e made low shallow = by (body_at way d) refl made
  where
    accepted : (r : Result Items PatchRefusal) → put_body way d r ≡ Ok new → is_ok r ≡ true
    accepted (Ok b) m = refl
    accepted (Err refusal) m = cc

    of-body : (b : Items) → body_at way d ≡ Some b → is_ok (edited_body d n e b) ≡ true → (16 < level_in way e) ⊎ (level_in way e ≤ 16) → level_in way e ≤ 16
    of-body b here ok (inl deep) = absurd (not-deep d new (at_body way d (edited_body d n e)) made low shallow (too_deep way n d b e here deep ok))
    of-body b here ok (inr fine) = fine

    by : (o : Option Items) → body_at way d ≡ o → change_body way d (edited_body d n e) o ≡ Ok new → level_in way e ≤ 16
    by None here m = cc
    by (Some b) here m = of-body b here (accepted (edited_body d n e b) m) (cases_lt 16 (level_in way e))

inside : (b : Bool) (r : Result Items PatchRefusal) (new : Items) → cond b (Err NotAnInstance) r ≡ Ok new → r ≡ Ok new
inside true r new m = cc
inside false r new m = m

item-level : (way : List ℕ) (d new : Items) (e : Edit) → at_body (holder_of way) d (edited_body d (number_of way) e) ≡ Ok new → depth d ≤ 16 → depth new ≤ 16 → level_in (holder_of way) e ≤ 16
item-level way d new e made low shallow = body-level (holder_of way) (number_of way) d new e made low shallow

way-level : (way : List ℕ) (d new : Items) (e : Edit) → by_way (Ok way) d e ≡ Ok new → depth d ≤ 16 → depth new ≤ 16 → level_on (Ok way) d e ≤ 16
way-level way d new (Add path place items) m low shallow = body-level way 0 d new (Add path place items) m low shallow
way-level way d new (Remove path) m low shallow = low
way-level way d new (Rename path name) m low shallow = low
way-level way d new (Move path place) m low shallow = item-level way d new (Move path place) (inside (length way == 0) _ new m) low shallow
way-level way d new (Resize path ns) m low shallow = item-level way d new (Resize path ns) (inside (length way == 0) _ new m) low shallow
way-level way d new (SetBits path r) m low shallow = item-level way d new (SetBits path r) (inside (length way == 0) _ new m) low shallow
way-level way d new (SetAddress path n) m low shallow = item-level way d new (SetAddress path n) (inside (length way == 0) _ new m) low shallow
way-level way d new (SetStride path n) m low shallow = item-level way d new (SetStride path n) (inside (length way == 0) _ new m) low shallow
way-level way d new (SetAlign path n) m low shallow = item-level way d new (SetAlign path n) (inside (length way == 0) _ new m) low shallow
way-level way d new (SetReset path n) m low shallow = item-level way d new (SetReset path n) (inside (length way == 0) _ new m) low shallow
way-level way d new (SetOwn path p v) m low shallow = body-level way 0 d new (SetOwn path p v) m low shallow
way-level way d new (SetDefault path p v) m low shallow = body-level way 0 d new (SetDefault path p v) m low shallow
way-level way d new (ClearOwn path p) m low shallow = body-level way 0 d new (ClearOwn path p) m low shallow
way-level way d new (ClearDefault path p) m low shallow = body-level way 0 d new (ClearDefault path p) m low shallow
way-level way d new (Assign path t p v) m low shallow = body-level way 0 d new (Assign path t p v) m low shallow
way-level way d new (Unassign path t p) m low shallow = body-level way 0 d new (Unassign path t p) m low shallow

-- ---- Its patches.

record Lead (d new : Items) (e : Edit) : Type 0 where
  fit : AllFit (patches d e) d
  led : image (patches d e) d ≡ new

lead : (d new : Items) (e : Edit) → rewritten d e ≡ Ok new → depth d ≤ 16 → depth new ≤ 16 → Lead d new e
lead d new e made low shallow = by (find (path_of e) d) refl
  where
    by : (r : Result (List ℕ) PathFault) → find (path_of e) d ≡ r → Lead d new e
    by (Err fault) f = let refused : Err (of_path fault) ≡ Ok new = sym (ap (λ r. by_way r d e) f) ∙ made in cc
    by (Ok way) f =
        let along : by_way (Ok way) d e ≡ Ok new = sym (ap (λ r. by_way r d e) f) ∙ made in
        let level = way-level way d new e along low shallow in
        let which : patches d e ≡ patches_on (Ok way) d e = ap (λ r. patches_on r d e) f in
        let there = patches_made d e way (Ok tt) (λ (_ : Unit {0}). patches_on (Ok way) d e) f level (ap is_ok along) refl in
        record {
          fit = subst (λ ps. AllFit ps d) (sym which) (patches_fit d e way (Ok tt) (λ (_ : Unit {0}). patches_on (Ok way) d e) f level (ap is_ok along) refl);
          led = ap (λ ps. image ps d) which ∙ same-made (image (patches_on (Ok way) d e) d) new (rewritten d e) there made;
        }

module _ (old : State) (e : Edit) (new : State) (rows : HasRows old) (accepted : step old e ≡ Ok new) where
  leads : Lead old.description new.description e
  leads =
      let s = steps old e new accepted in
      lead old.description new.description e s.made (rows-deep old rows) (rows-deep new s.rows)

  pub edit-fits : AllFit (patches old.description e) old.description
  edit-fits = leads.fit

  pub edit-leads : new ≡ record { description = image (patches old.description e) old.description; option = old.option }
  edit-leads =
      let s = steps old e new accepted in
      ap (λ d. record new { description = d }) (sym leads.led) ∙ ap (λ o. record { description = image (patches old.description e) old.description; option = o }) s.same_option
