-- The patches of an edit fit and make what the edit makes; or what it makes nests too deep.
use Rattle.std.proofs.Common.{◌≡◌, ◌≤◌, ◌<◌, ◌+◌, inl, inr, ℕ, Bool, true, false, cond, List, [], ◌++◌, length, take, drop, Some, None, Option, IfOk, refl, ap, sym, subst, ◌∙◌, arith}
use Rattle.std.specs.Prelude.{Result, Ok, Err, is_ok, ◌==◌}
use Rattle.std.specs.List.{list_all}
use Rattle.rdl_tree.specs.ItemAt.{item_at}
use Rattle.rdl_tree.specs.Items.{Items}
use Rattle.rdl_tree.specs.View.{items_of, list_of}
use Rattle.rdl_tree.specs.Address.{holder_of, number_of, body_at, map_body}
use Rattle.rdl_tree.specs.Depth.{depth}
use Rattle.rdl_tree.specs.Find.{find}
use Rattle.rdl_tree.specs.Patch.{image, AllFit}
use Rattle.rdl_tree.specs.declared.description.Item.{Item}
use Rattle.rdl_tree.specs.declared.patch.Patch.{Patch}
use Rattle.rdl_tree.proofs.Rounds.{items_of-list_of}
use Rattle.rdl_tree.proofs.Sizes.{depth-append}
use Rattle.rdl_scope.proofs.Depths.{depth-body_at}
use Rattle.rdl_rewrite.specs.Assignment.{assigns}
use Rattle.rdl_rewrite.specs.Change.{is_component, taken, insert_items, added, added_at, edited_body}
use Rattle.rdl_rewrite.specs.Dynamics.{assigns_to}
use Rattle.rdl_rewrite.specs.Fates.{fate, fate_patches}
use Rattle.rdl_rewrite.specs.Patches.{patches_on, patches_in, body_patches, level_in, level_on}
use Rattle.rdl_rewrite.specs.Place.{place_number}
use Rattle.rdl_rewrite.specs.Refuses.{MakesTooDeep, RefusesEdit}
use Rattle.rdl_rewrite.specs.Removal.{is_in_use, goes, staying, removed}
use Rattle.rdl_rewrite.specs.Renaming.{is_taken, is_reserved, renamed_items, renamed}
use Rattle.rdl_rewrite.specs.Rewritten.{path_of, put_body, change_body, at_body, by_way, rewritten}
use Rattle.rdl_rewrite.specs.Shell.{edited_shell}
use Rattle.rdl_rewrite.specs.declared.assignment.Sort.TheVariants as sort
use Rattle.rdl_rewrite.specs.declared.edit.Edit.{Edit}
use Rattle.rdl_rewrite.specs.declared.edit.Edit.TheVariants.{Add, Remove, Rename, Move, Resize, SetBits, SetAddress, SetStride, SetAlign, SetReset, SetOwn, SetDefault, ClearOwn, ClearDefault, Assign, Unassign}
use Rattle.rdl_rewrite.specs.declared.edit.PatchRefusal.{PatchRefusal}
use Rattle.rdl_rewrite.specs.declared.edit.PatchRefusal.TheVariants.{InUse, NameTaken, Reserved, NotAddable, NotAnInstance, TooDeep}
use Rattle.rdl_rewrite.specs.declared.fate.Fate.{Fate}
use Rattle.rdl_rewrite.specs.declared.place.Place.{Place}
use Rattle.rdl_rewrite.proofs.Deep.{depth-put}
use Rattle.rdl_rewrite.proofs.Fated.{Apt, fated, fated_whole}
use Rattle.rdl_rewrite.proofs.Fates.{staying-fated, renamed-fated, apt_removal, apt_renaming}
use Rattle.rdl_rewrite.proofs.OneBody.{Yields, add_yields, move_yields, set_yields, assign_yields, clear_yields, unassign_yields, reshape_yields}

-- the description expected is what the patches lead to, and they fit
pub record Makes (whole : Items) (expected : Result Items PatchRefusal) (ps : List Patch) : Type 0 where
  pub made : expected ≡ Ok (image ps whole)
  pub fit : AllFit ps whole

-- ---- In one body.

body_yields : (way : List ℕ) (n : ℕ) (whole body : Items) (e : Edit) → body_at way whole ≡ Some body → level_in way e ≤ 16 → is_ok (edited_body whole n e body) ≡ true
    → Yields way whole (edited_body whole n e body) (body_patches way n e body)
body_yields way n whole body (Add path place new) here level ok = add_yields way whole body new place here level ok
body_yields way n whole body (Remove path) here level ok = reshape_yields way whole body n (edited_shell (Remove path)) here ok
body_yields way n whole body (Rename path name) here level ok = reshape_yields way whole body n (edited_shell (Rename path name)) here ok
body_yields way n whole body (Move path place) here level ok = move_yields way whole body n place here ok
body_yields way n whole body (Resize path new) here level ok = reshape_yields way whole body n (edited_shell (Resize path new)) here ok
body_yields way n whole body (SetBits path new) here level ok = reshape_yields way whole body n (edited_shell (SetBits path new)) here ok
body_yields way n whole body (SetAddress path new) here level ok = reshape_yields way whole body n (edited_shell (SetAddress path new)) here ok
body_yields way n whole body (SetStride path new) here level ok = reshape_yields way whole body n (edited_shell (SetStride path new)) here ok
body_yields way n whole body (SetAlign path new) here level ok = reshape_yields way whole body n (edited_shell (SetAlign path new)) here ok
body_yields way n whole body (SetReset path new) here level ok = reshape_yields way whole body n (edited_shell (SetReset path new)) here ok
body_yields way n whole body (SetOwn path property value) here level ok = set_yields way whole body sort.Own property value here level
body_yields way n whole body (SetDefault path property value) here level ok = set_yields way whole body sort.Default property value here level
body_yields way n whole body (ClearOwn path property) here level ok = clear_yields way whole body (assigns sort.Own property) here ok
body_yields way n whole body (ClearDefault path property) here level ok = clear_yields way whole body (assigns sort.Default property) here ok
body_yields way n whole body (Assign path target property value) here level ok = assign_yields way whole body target property value here level
body_yields way n whole body (Unassign path target property) here level ok = unassign_yields way whole body (assigns_to target property) here ok

makes_put : (way : List ℕ) (whole : Items) (r : Result Items PatchRefusal) (ps : List Patch) → Yields way whole r ps → Makes whole (put_body way whole r) ps
makes_put way whole r ps y = record { made = ap (put_body way whole) y.made ∙ ap Ok (sym y.leads.made); fit = y.leads.fit }

ok-put : (way : List ℕ) (whole : Items) (r : Result Items PatchRefusal) → is_ok (put_body way whole r) ≡ true → is_ok r ≡ true
ok-put way whole (Ok new) h = refl
ok-put way whole (Err refusal) h = cc

at_body_makes : (way : List ℕ) (n : ℕ) (whole : Items) (e : Edit) → level_in way e ≤ 16 → is_ok (at_body way whole (edited_body whole n e)) ≡ true
    → Makes whole (at_body way whole (edited_body whole n e)) (patches_in way n e (body_at way whole))
at_body_makes way n whole e level ok = by_body (body_at way whole) refl ok
  where
    by_body : (o : Option Items) → body_at way whole ≡ o → is_ok (change_body way whole (edited_body whole n e) o) ≡ true → Makes whole (change_body way whole (edited_body whole n e) o) (patches_in way n e o)
    by_body None here h = cc
    by_body (Some body) here h =
        makes_put way whole (edited_body whole n e body) (body_patches way n e body) (body_yields way n whole body e here level (ok-put way whole (edited_body whole n e body) h))

ok-whole : (way : List ℕ) (whole : Items) (r : Result Items PatchRefusal) → is_ok r ≡ true → is_ok (put_body way whole r) ≡ true
ok-whole way whole (Ok new) h = refl
ok-whole way whole (Err refusal) h = cc

-- ---- In every body.

fated_makes : (whole : Items) (f : List ℕ → Item → Fate) → Apt f → (new : Items) → new ≡ fated f [] 0 whole → Makes whole (Ok new) (fate_patches f [] 0 whole)
fated_makes whole f apt new e =
    let led = fated_whole f apt whole in
    record { made = ap Ok (e ∙ sym led.made); fit = led.fit }

removed_makes : (whole : Items) (way : List ℕ) → is_ok (removed whole way) ≡ true → Makes whole (removed whole way) (fate_patches (fate whole way None) [] 0 whole)
removed_makes whole way ok = by_use (is_in_use whole way) ok
  where
    by_use : (b : Bool) → is_ok (cond b (Err InUse) (Ok (staying (goes whole way) [] 0 whole))) ≡ true
        → Makes whole (cond b (Err InUse) (Ok (staying (goes whole way) [] 0 whole))) (fate_patches (fate whole way None) [] 0 whole)
    by_use true h = cc
    by_use false h = fated_makes whole (fate whole way None) (apt_removal whole way) _ (staying-fated whole way [] 0 whole)

renamed_makes : (whole : Items) (way name : List ℕ) → is_ok (renamed whole way name) ≡ true → Makes whole (renamed whole way name) (fate_patches (fate whole way (Some name)) [] 0 whole)
renamed_makes whole way name ok = by_tests (is_taken whole way name (item_at way whole)) (is_reserved name) ok
  where
    by_tests : (t r : Bool) → is_ok (cond t (Err NameTaken) (cond r (Err Reserved) (Ok (renamed_items whole way name [] 0 whole)))) ≡ true
        → Makes whole (cond t (Err NameTaken) (cond r (Err Reserved) (Ok (renamed_items whole way name [] 0 whole)))) (fate_patches (fate whole way (Some name)) [] 0 whole)
    by_tests true r h = cc
    by_tests false true h = cc
    by_tests false false h = fated_makes whole (fate whole way (Some name)) (apt_renaming whole way name) _ (renamed-fated whole way name [] 0 whole)

-- ---- Every edit.

-- an edit of an item, which is not the root
item_makes : (way : List ℕ) (whole : Items) (r : Result Items PatchRefusal) (ps : List Patch) → (is_ok r ≡ true → Makes whole r ps)
    → is_ok (cond (length way == 0) (Err NotAnInstance) r) ≡ true → Makes whole (cond (length way == 0) (Err NotAnInstance) r) ps
item_makes way whole r ps makes ok = by_root (length way == 0) ok
  where
    by_root : (b : Bool) → is_ok (cond b (Err NotAnInstance) r) ≡ true → Makes whole (cond b (Err NotAnInstance) r) ps
    by_root true h = cc
    by_root false h = makes h

in_body : (way : List ℕ) (whole : Items) (e : Edit) → level_in (holder_of way) e ≤ 16
    → is_ok (at_body (holder_of way) whole (edited_body whole (number_of way) e)) ≡ true
    → Makes whole (at_body (holder_of way) whole (edited_body whole (number_of way) e)) (patches_in (holder_of way) (number_of way) e (body_at (holder_of way) whole))
in_body way whole e level ok = at_body_makes (holder_of way) (number_of way) whole e level ok

way_makes : (way : List ℕ) (whole : Items) (e : Edit) → level_on (Ok way) whole e ≤ 16 → is_ok (by_way (Ok way) whole e) ≡ true → Makes whole (by_way (Ok way) whole e) (patches_on (Ok way) whole e)
way_makes way whole (Add path place new) level ok = at_body_makes way 0 whole (Add path place new) level ok
way_makes way whole (Remove path) level ok = item_makes way whole _ _ (removed_makes whole way) ok
way_makes way whole (Rename path name) level ok = item_makes way whole _ _ (renamed_makes whole way name) ok
way_makes way whole (Move path place) level ok = item_makes way whole _ _ (in_body way whole (Move path place) level) ok
way_makes way whole (Resize path new) level ok = item_makes way whole _ _ (in_body way whole (Resize path new) level) ok
way_makes way whole (SetBits path new) level ok = item_makes way whole _ _ (in_body way whole (SetBits path new) level) ok
way_makes way whole (SetAddress path new) level ok = item_makes way whole _ _ (in_body way whole (SetAddress path new) level) ok
way_makes way whole (SetStride path new) level ok = item_makes way whole _ _ (in_body way whole (SetStride path new) level) ok
way_makes way whole (SetAlign path new) level ok = item_makes way whole _ _ (in_body way whole (SetAlign path new) level) ok
way_makes way whole (SetReset path new) level ok = item_makes way whole _ _ (in_body way whole (SetReset path new) level) ok
way_makes way whole (SetOwn path property value) level ok = at_body_makes way 0 whole (SetOwn path property value) level ok
way_makes way whole (SetDefault path property value) level ok = at_body_makes way 0 whole (SetDefault path property value) level ok
way_makes way whole (ClearOwn path property) level ok = at_body_makes way 0 whole (ClearOwn path property) level ok
way_makes way whole (ClearDefault path property) level ok = at_body_makes way 0 whole (ClearDefault path property) level ok
way_makes way whole (Assign path target property value) level ok = at_body_makes way 0 whole (Assign path target property value) level ok
way_makes way whole (Unassign path target property) level ok = at_body_makes way 0 whole (Unassign path target property) level ok

patches_make : (whole : Items) (e : Edit) (way : List ℕ) (ps : List Patch) → find (path_of e) whole ≡ Ok way → level_on (Ok way) whole e ≤ 16
    → is_ok (by_way (Ok way) whole e) ≡ true → ps ≡ patches_on (Ok way) whole e → Makes whole (rewritten whole e) ps
patches_make whole e way ps found level ok is =
    subst (λ r. Makes whole (by_way r whole e) ps) (sym found) (subst (λ qs. Makes whole (by_way (Ok way) whole e) qs) (sym is) (way_makes way whole e level ok))

-- the answer of the patches along a way that was found
pub patches_made : {X : Type 0} (whole : Items) (e : Edit) (way : List ℕ) (r : Result X PatchRefusal) (patches : X → List Patch) → find (path_of e) whole ≡ Ok way
    → IfOk r (λ _. level_on (Ok way) whole e ≤ 16) → IfOk r (λ _. is_ok (by_way (Ok way) whole e) ≡ true) → IfOk r (λ x. patches x ≡ patches_on (Ok way) whole e)
    → IfOk r (λ x. rewritten whole e ≡ Ok (image (patches x) whole))
patches_made whole e way (Ok x) patches found level ok is = (patches_make whole e way (patches x) found level ok is).made
patches_made whole e way (Err refusal) patches found level ok is = tt

pub patches_fit : {X : Type 0} (whole : Items) (e : Edit) (way : List ℕ) (r : Result X PatchRefusal) (patches : X → List Patch) → find (path_of e) whole ≡ Ok way
    → IfOk r (λ _. level_on (Ok way) whole e ≤ 16) → IfOk r (λ _. is_ok (by_way (Ok way) whole e) ≡ true) → IfOk r (λ x. patches x ≡ patches_on (Ok way) whole e)
    → IfOk r (λ x. AllFit (patches x) whole)
patches_fit whole e way (Ok x) patches found level ok is = (patches_make whole e way (patches x) found level ok is).fit
patches_fit whole e way (Err refusal) patches found level ok is = tt

-- ---- Too deep.

depth-between : (xs ys zs : List Item) → depth (items_of ys) ≤ depth (items_of (xs ++ ys ++ zs))
depth-between xs ys zs = omega (arith, depth-append (xs ++ ys) zs, depth-append xs ys)

depth-inserted : (number : ℕ) (new body : Items) → depth new ≤ depth (insert_items number new body)
depth-inserted number new body = omega (arith, ap depth (items_of-list_of new), depth-between (take number (list_of body)) (list_of new) (drop number (list_of body)))

added_deep : (way : List ℕ) (whole : Items) (place : Place) (new body : Items) → body_at way whole ≡ Some body → 16 < length way + depth new → is_ok (put_body way whole (added whole place new body)) ≡ true
    → MakesTooDeep (put_body way whole (added whole place new body))
added_deep way whole place new body here deep ok = by_components (list_all is_component (list_of new)) ok
  where
    by_taken : (n : ℕ) (b : Bool) → is_ok (put_body way whole (cond b (Err NameTaken) (Ok (insert_items n new body)))) ≡ true
        → MakesTooDeep (put_body way whole (cond b (Err NameTaken) (Ok (insert_items n new body))))
    by_taken n true h = cc
    by_taken n false h = record {
      new = map_body way (λ _. insert_items n new body) whole;
      made = refl;
      deep = let d = depth-put way whole body (insert_items n new body) here in let i = depth-inserted n new body in omega arith;
    }

    by_place : (o : Option ℕ) → is_ok (put_body way whole (added_at o whole new body)) ≡ true → MakesTooDeep (put_body way whole (added_at o whole new body))
    by_place None h = cc
    by_place (Some n) h = by_taken n (taken whole new body) h

    by_components : (b : Bool) → is_ok (put_body way whole (cond b (added_at (place_number place (list_of body)) whole new body) (Err NotAddable))) ≡ true
        → MakesTooDeep (put_body way whole (cond b (added_at (place_number place (list_of body)) whole new body) (Err NotAddable)))
    by_components true h = by_place (place_number place (list_of body)) h
    by_components false h = cc

-- the body on the way stands too deep for its items to have addresses
pub over : (way : List ℕ) (whole body : Items) (expected : Result Items PatchRefusal) → body_at way whole ≡ Some body → 16 < length way → RefusesEdit whole expected TooDeep
over way whole body expected here deep = inr (record { refused = refl; deep = inl (omega (arith, depth-body_at way whole body here, deep)) })

put_deep : (way : List ℕ) (n : ℕ) (whole body : Items) (e : Edit) → body_at way whole ≡ Some body → 16 < level_in way e → is_ok (edited_body whole n e body) ≡ true
    → RefusesEdit whole (put_body way whole (edited_body whole n e body)) TooDeep
put_deep way n whole body (Add path place new) here deep ok = inr (record { refused = refl; deep = inr (added_deep way whole place new body here deep (ok-whole way whole (added whole place new body) ok)) })
put_deep way n whole body (Remove path) here deep ok = over way whole body _ here deep
put_deep way n whole body (Rename path name) here deep ok = over way whole body _ here deep
put_deep way n whole body (Move path place) here deep ok = over way whole body _ here deep
put_deep way n whole body (Resize path new) here deep ok = over way whole body _ here deep
put_deep way n whole body (SetBits path new) here deep ok = over way whole body _ here deep
put_deep way n whole body (SetAddress path new) here deep ok = over way whole body _ here deep
put_deep way n whole body (SetStride path new) here deep ok = over way whole body _ here deep
put_deep way n whole body (SetAlign path new) here deep ok = over way whole body _ here deep
put_deep way n whole body (SetReset path new) here deep ok = over way whole body _ here deep
put_deep way n whole body (SetOwn path property value) here deep ok = over way whole body _ here deep
put_deep way n whole body (SetDefault path property value) here deep ok = over way whole body _ here deep
put_deep way n whole body (ClearOwn path property) here deep ok = over way whole body _ here deep
put_deep way n whole body (ClearDefault path property) here deep ok = over way whole body _ here deep
put_deep way n whole body (Assign path target property value) here deep ok = over way whole body _ here deep
put_deep way n whole body (Unassign path target property) here deep ok = over way whole body _ here deep

-- what the edit of the body on the way changes or puts in stands too deep
pub too_deep : (way : List ℕ) (n : ℕ) (whole body : Items) (e : Edit) → body_at way whole ≡ Some body → 16 < level_in way e → is_ok (edited_body whole n e body) ≡ true
    → RefusesEdit whole (at_body way whole (edited_body whole n e)) TooDeep
too_deep way n whole body e here deep ok =
    subst (λ o. RefusesEdit whole (change_body way whole (edited_body whole n e) o) TooDeep) (sym here) (put_deep way n whole body e here deep ok)
