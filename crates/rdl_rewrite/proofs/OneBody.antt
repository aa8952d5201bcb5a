-- What the patches of an edit of one body lead to.
use Rattle.std.proofs.Common.{◌≡◌, ◌≤◌, ◌<◌, ◌+◌, ℕ, suc, Bool, true, false, cond, List, [], ◌∷◌, ◌++◌, length, get_or, take, drop, Some, None, Option, refl, ap, sym, ◌∙◌, arith, append_assoc, length-append, option_map}
use Rattle.std.specs.Prelude.{Result, Ok, Err, is_ok, slice_get, slice_set, bytes_eq, ◌&&◌}
use Rattle.std.specs.List.{list_all, position, insert, remove}
use Rattle.std.specs.Cmp.Lexicographic.{pointwise}
use Rattle.std.proofs.Math.Seq.{take-append_seam, drop-append_seam}
use Rattle.std.proofs.lemmas.List.{length-take, take-append-drop}
use Rattle.std.proofs.lemmas.List.Edits.{length-remove}
use Rattle.std.proofs.lemmas.List.Quantifiers.{position-Some}
use Rattle.std.proofs.lemmas.Option.{slice_get_within, slice_get-get_or}
use Rattle.std.proofs.lemmas.Slice.Eq.{bytes_eq-Decides, slice_eq-Decides}
use Rattle.rdl_tree.specs.Items.{Items, no_items}
use Rattle.rdl_tree.specs.View.{add, items_of, list_of}
use Rattle.rdl_tree.specs.Address.{body_at}
use Rattle.rdl_tree.specs.Depth.{depth}
use Rattle.rdl_tree.specs.Find.{is_named}
use Rattle.rdl_tree.specs.Edit.{insert_item, remove_item, replace_item, shift_item, put_back}
use Rattle.rdl_tree.specs.Part.{has_part, with_part, with_part_at, put_at}
use Rattle.rdl_tree.specs.declared.description.Item.{Item}
use Rattle.rdl_tree.specs.declared.description.Item.TheVariants.{Define, Instance, Own, Default, Dynamic}
use Rattle.rdl_tree.specs.declared.part.Part.{Part}
use Rattle.rdl_tree.specs.declared.part.Part.TheVariants.{OfShell, OfValue}
use Rattle.rdl_tree.specs.declared.patch.Patch.{Patch}
use Rattle.rdl_tree.specs.declared.patch.Patch.TheVariants.{Insert}
use Rattle.rdl_tree.specs.declared.shell.Shell.{Shell}
use Rattle.rdl_tree.specs.declared.value.Value.{Value}
use Rattle.rdl_tree.proofs.Rounds.{list_of-items_of, items_of-list_of}
use Rattle.rdl_tree.proofs.Sizes.{depth-add}
use Rattle.rdl_rewrite.specs.Assignment.{assigns, assignment, is_sort, up_to_last, set, set_at, cleared_at}
use Rattle.rdl_rewrite.specs.Change.{is_component, taken, insert_items, added, added_at, put_in, moved, moved_item}
use Rattle.rdl_rewrite.specs.Dynamics.{assigns_to, assigned, assigned_at, unassigned_at}
use Rattle.rdl_rewrite.specs.Patches.{inserts, inserts_at, move, drop_at, set_or_insert, set_property, set_dynamic, reshape}
use Rattle.rdl_rewrite.specs.Place.{place_number}
use Rattle.rdl_rewrite.specs.Shell.{reshaped, reshaped_at}
use Rattle.rdl_rewrite.specs.declared.assignment.Sort.{Sort}
use Rattle.rdl_rewrite.specs.declared.assignment.Sort.TheVariants as sort
use Rattle.rdl_rewrite.specs.declared.edit.PatchRefusal.{PatchRefusal}
use Rattle.rdl_rewrite.specs.declared.edit.PatchRefusal.TheVariants.{NameTaken, NotAddable}
use Rattle.rdl_rewrite.specs.declared.place.Place.{Place}
use Rattle.rdl_rewrite.specs.declared.place.Place.TheVariants.{First, Last, Before, After}
use Rattle.rdl_rewrite.proofs.Assignments.{last_within}
use Rattle.rdl_rewrite.proofs.Leading.{Leads, leads-none, leads-append, leads-insert, leads-delete, leads-exchange, leads-shift, body_at-map_body, to_next}
use Rattle.rdl_rewrite.proofs.Places.{position_below}

-- the change of the body is made, and the patches lead to it
pub record Yields (way : List ℕ) (whole : Items) (changed : Result Items PatchRefusal) (ps : List Patch) : Type 0 where
  pub new : Items
  pub made : changed ≡ Ok new
  pub leads : Leads way whole ps new

-- ---- Items inserted.

insert-seam : (pre post : List Item) (x : Item) → insert_item (length pre) x (items_of (pre ++ post)) ≡ items_of ((pre ++ x ∷ []) ++ post)
insert-seam pre post x =
    ap (λ xs. items_of (insert xs (length pre) x)) (list_of-items_of (pre ++ post))
    ∙ ap (λ ys. items_of (ys ++ x ∷ drop (length pre) (pre ++ post))) (take-append_seam pre post)
    ∙ ap (λ ys. items_of (pre ++ x ∷ ys)) (drop-append_seam pre post) ∙ ap items_of (sym (append_assoc pre (x ∷ []) post))

inserts_lead : (way : List ℕ) (xs pre post : List Item) (n : ℕ) (whole : Items) → length pre ≡ n → body_at way whole ≡ Some (items_of (pre ++ post)) → length way + depth (items_of xs) ≤ 16
    → Leads way whole (inserts way n xs) (items_of (pre ++ (xs ++ post)))
inserts_lead way [] pre post n whole e here level = leads-none way whole (items_of (pre ++ post)) here
inserts_lead way (x ∷ xs) pre post n whole e here level =
    let body = items_of (pre ++ post) in
    let next = items_of ((pre ++ x ∷ []) ++ post) in
    let within : n ≤ length (list_of body) = omega (arith, e, ap length (list_of-items_of (pre ++ post)), length-append pre post) in
    let one = to_next way whole (Insert (way ++ n ∷ []) x ∷ []) _ next (ap (λ k. insert_item k x body) (sym e) ∙ insert-seam pre post x)
    (leads-insert way n x whole body here within (omega (arith, level, depth-add x (items_of xs)))) in
    let others = inserts_lead way xs (pre ++ x ∷ []) post (suc n) _ (omega (arith, length-append pre (x ∷ []), e)) (body_at-map_body way (λ _. next) whole body here) (omega (arith, level, depth-add x (items_of xs))) in
    leads-append way whole (Insert (way ++ n ∷ []) x ∷ []) (inserts way (suc n) xs) next _ one
    (to_next way _ (inserts way (suc n) xs) _ _ (ap items_of (append_assoc pre (x ∷ []) (xs ++ post))) others)

pub place_within : (place : Place) (xs : List Item) (n : ℕ) → place_number place xs ≡ Some n → n ≤ length xs
place_within First xs n e = let f : 0 ≡ n = cc in omega (arith, f)
place_within Last xs n e = let f : length xs ≡ n = cc in omega (arith, f)
place_within (Before sibling) xs n e = omega (arith, position_below (is_named sibling) xs n e)
place_within (After sibling) xs n e = by_case (position (is_named sibling) xs) refl e
  where
    by_case : (o : Option ℕ) → position (is_named sibling) xs ≡ o → option_map (λ i. i + 1) o ≡ Some n → n ≤ length xs
    by_case None f g = cc
    by_case (Some i) f g = let h : i + 1 ≡ n = cc in omega (arith, h, position_below (is_named sibling) xs i f)

inserted : (way : List ℕ) (whole body new : Items) (n : ℕ) → body_at way whole ≡ Some body → n ≤ length (list_of body) → length way + depth new ≤ 16
    → Leads way whole (inserts way n (list_of new)) (insert_items n new body)
inserted way whole body new n here within level =
    let xs = list_of body in
    let e : length (take n xs) ≡ n = omega (arith, length-take n xs) in
    let same = ap (λ ys. Some (items_of ys)) (take-append-drop n xs) ∙ ap Some (items_of-list_of body) in
    to_next way whole _ _ _ (ap items_of (sym (append_assoc (take n xs) (list_of new) (drop n xs))))
    (inserts_lead way (list_of new) (take n xs) (drop n xs) n whole e (here ∙ sym same) (omega (arith, level, ap depth (items_of-list_of new))))

pub add_yields : (way : List ℕ) (whole body new : Items) (place : Place) → body_at way whole ≡ Some body → length way + depth new ≤ 16 → is_ok (added whole place new body) ≡ true
    → Yields way whole (added whole place new body) (inserts_at way (place_number place (list_of body)) (list_of new))
add_yields way whole body new place here level ok = by_components (list_all is_component (list_of new)) ok
  where
    by_taken : (n : ℕ) → place_number place (list_of body) ≡ Some n → (b : Bool) → is_ok (cond b (Err NameTaken) (Ok (insert_items n new body))) ≡ true
        → Yields way whole (cond b (Err NameTaken) (Ok (insert_items n new body))) (inserts way n (list_of new))
    by_taken n at true h = cc
    by_taken n at false h = record { new = insert_items n new body; made = refl; leads = inserted way whole body new n here (place_within place (list_of body) n at) level }

    by_place : (o : Option ℕ) → place_number place (list_of body) ≡ o → is_ok (added_at o whole new body) ≡ true → Yields way whole (added_at o whole new body) (inserts_at way o (list_of new))
    by_place None at h = cc
    by_place (Some n) at h = by_taken n at (taken whole new body) h

    by_components : (b : Bool) → is_ok (cond b (added_at (place_number place (list_of body)) whole new body) (Err NotAddable)) ≡ true
        → Yields way whole (cond b (added_at (place_number place (list_of body)) whole new body) (Err NotAddable)) (inserts_at way (place_number place (list_of body)) (list_of new))
    by_components true h = by_place (place_number place (list_of body)) refl h
    by_components false h = cc

-- ---- An item moved.

shift-put : (n to : ℕ) (body : Items) (x : Item) → slice_get (list_of body) n ≡ Some x → shift_item n to body ≡ insert_item to x (remove_item n body)
shift-put n to body x got =
    ap (λ o. items_of (put_back to (remove (list_of body) n) o)) got ∙ ap (λ ys. items_of (insert ys to x)) (sym (list_of-items_of (remove (list_of body) n)))

pub move_yields : (way : List ℕ) (whole body : Items) (n : ℕ) (place : Place) → body_at way whole ≡ Some body → is_ok (moved place n body) ≡ true
    → Yields way whole (moved place n body) (move way n (place_number place (list_of (remove_item n body))))
move_yields way whole body n place here ok = by_item (slice_get (list_of body) n) refl ok
  where
    by_place : (x : Item) → slice_get (list_of body) n ≡ Some x → (o : Option ℕ) → place_number place (list_of (remove_item n body)) ≡ o → is_ok (put_in o x (remove_item n body)) ≡ true
        → Yields way whole (put_in o x (remove_item n body)) (move way n o)
    by_place x got None at h = cc
    by_place x got (Some to) at h =
        let xs = list_of body in
        let within = place_within place (list_of (remove_item n body)) to at in
        let below : to < length xs = omega (arith, within, ap length (list_of-items_of (remove xs n)), length-remove xs n (slice_get_within xs n x got)) in
        record { new = insert_item to x (remove_item n body); made = refl; leads = to_next way whole _ _ _ (shift-put n to body x got) (leads-shift way n to whole body x here got below) }

    by_item : (o : Option Item) → slice_get (list_of body) n ≡ o → is_ok (moved_item o place (remove_item n body)) ≡ true
        → Yields way whole (moved_item o place (remove_item n body)) (move way n (place_number place (list_of (remove_item n body))))
    by_item None got h = cc
    by_item (Some x) got h = by_place x got (place_number place (list_of (remove_item n body))) refl h

-- ---- An assignment set, or taken out.

-- the item in the place of the one that is there; else inserted
abbrev put_by : Option ℕ → (n : ℕ) → Item → Items → Items
put_by (Some there) n x b = replace_item there x b
put_by None n x b = insert_item n x b

exchange-replace : (n : ℕ) (part : Part) (body : Items) (x y : Item) → slice_get (list_of body) n ≡ Some x → with_part part x ≡ y → with_part_at n part body ≡ replace_item n y body
exchange-replace n part body x y got e =
    ap (λ o. items_of (put_at n (option_map (with_part part) o) (list_of body))) got ∙ ap (λ z. items_of (slice_set (list_of body) n z)) e

set_leads : (way : List ℕ) (whole body : Items) (p : Item → Bool) (value : Value) (n : ℕ) (x : Item) → body_at way whole ≡ Some body → length way ≤ 16
    → ((y : Item) → p y ≡ true → (has_part (OfValue value) y ≡ true) × (with_part (OfValue value) y ≡ x)) → n ≤ length (list_of body) → depth (add x no_items) ≡ 0
    → Leads way whole (set_or_insert way (position p (list_of body)) value n x) (put_by (position p (list_of body)) n x body)
set_leads way whole body p value n x here level each within flat = by_case (position p (list_of body)) refl
  where
    by_case : (o : Option ℕ) → position p (list_of body) ≡ o → Leads way whole (set_or_insert way o value n x) (put_by o n x body)
    by_case None at = leads-insert way n x whole body here within (omega (arith, level, flat))
    by_case (Some k) at =
        let xs = list_of body in
        let there = position-Some p xs k x at in
        let got = slice_get-get_or xs k x there.0 in
        let is = each (get_or xs k x) there.1 in
        to_next way whole _ _ _ (exchange-replace k (OfValue value) body (get_or xs k x) x got is.1) (leads-exchange way k (OfValue value) whole body (get_or xs k x) here got is.0)

assigns-value : (s : Sort) (property : List ℕ) (value : Value) (y : Item) → assigns s property y ≡ true → (has_part (OfValue value) y ≡ true) × (with_part (OfValue value) y ≡ assignment s property value)
assigns-value sort.Own property value (Define n c) e = cc
assigns-value sort.Own property value (Instance s of) e = cc
assigns-value sort.Own property value (Own p v) e = (refl, ap (λ q. Own q value) ((bytes_eq-Decides p property).0 e))
assigns-value sort.Own property value (Default p v) e = cc
assigns-value sort.Own property value (Dynamic t p v) e = cc
assigns-value sort.Default property value (Define n c) e = cc
assigns-value sort.Default property value (Instance s of) e = cc
assigns-value sort.Default property value (Own p v) e = cc
assigns-value sort.Default property value (Default p v) e = (refl, ap (λ q. Default q value) ((bytes_eq-Decides p property).0 e))
assigns-value sort.Default property value (Dynamic t p v) e = cc

assignment-flat : (s : Sort) (property : List ℕ) (value : Value) → depth (add (assignment s property value) no_items) ≡ 0
assignment-flat sort.Own property value = refl
assignment-flat sort.Default property value = refl

set-put : (o : Option ℕ) (s : Sort) (property : List ℕ) (value : Value) (b : Items) → put_by o (up_to_last (is_sort s) (list_of b)) (assignment s property value) b ≡ set_at o s property value b
set-put None s property value b = refl
set-put (Some k) s property value b = refl

pub set_yields : (way : List ℕ) (whole body : Items) (s : Sort) (property : List ℕ) (value : Value) → body_at way whole ≡ Some body → length way ≤ 16
    → Yields way whole (Ok (set s property value body)) (set_property way s property value (list_of body))
set_yields way whole body s property value here level = record {
  new = set s property value body;
  made = refl;
  leads = to_next way whole _ _ _ (set-put (position (assigns s property) (list_of body)) s property value body)
      (set_leads way whole body (assigns s property) value (up_to_last (is_sort s) (list_of body)) (assignment s property value) here level
      (assigns-value s property value) (last_within (is_sort s) (list_of body)) (assignment-flat s property value));
}

and-parts : (x y : Bool) → (x && y) ≡ true → (x ≡ true) × (y ≡ true)
and-parts true y e = (refl, e)
and-parts false y e = cc

assigns_to-value : (target : List (List ℕ)) (property : List ℕ) (value : Value) (y : Item) → assigns_to target property y ≡ true
    → (has_part (OfValue value) y ≡ true) × (with_part (OfValue value) y ≡ Dynamic target property value)
assigns_to-value target property value (Define n c) e = cc
assigns_to-value target property value (Instance s of) e = cc
assigns_to-value target property value (Own p v) e = cc
assigns_to-value target property value (Default p v) e = cc
assigns_to-value target property value (Dynamic t p v) e =
    let both = and-parts (pointwise bytes_eq t target) (bytes_eq p property) e in
    let names : t ≡ target = (slice_eq-Decides bytes_eq-Decides t target (pointwise bytes_eq t target) refl).0 both.0 in
    let same : p ≡ property = (bytes_eq-Decides p property).0 both.1 in
    (refl, ap (λ m. Dynamic m p value) names ∙ ap (λ q. Dynamic target q value) same)

assigned-put : (o : Option ℕ) (target : List (List ℕ)) (property : List ℕ) (value : Value) (b : Items) → put_by o (length (list_of b)) (Dynamic target property value) b ≡ assigned_at o target property value b
assigned-put None target property value b = refl
assigned-put (Some k) target property value b = refl

pub assign_yields : (way : List ℕ) (whole body : Items) (target : List (List ℕ)) (property : List ℕ) (value : Value) → body_at way whole ≡ Some body → length way ≤ 16
    → Yields way whole (Ok (assigned target property value body)) (set_dynamic way target property value (list_of body))
assign_yields way whole body target property value here level = record {
  new = assigned target property value body;
  made = refl;
  leads = to_next way whole _ _ _ (assigned-put (position (assigns_to target property) (list_of body)) target property value body)
      (set_leads way whole body (assigns_to target property) value (length (list_of body)) (Dynamic target property value) here level
      (assigns_to-value target property value) (omega arith) refl);
}

-- where a list has an item of this number
got-below : (xs : List Item) (n : ℕ) → n < length xs → (x : Item) × (slice_get xs n ≡ Some x)
got-below [] n h = absurd (omega arith)
got-below (y ∷ ys) n h = (get_or (y ∷ ys) n y, slice_get-get_or (y ∷ ys) n y h)

dropped : (way : List ℕ) (whole body : Items) (p : Item → Bool) (n : ℕ) → body_at way whole ≡ Some body → position p (list_of body) ≡ Some n → Leads way whole (drop_at way (Some n)) (remove_item n body)
dropped way whole body p n here at = let found = got-below (list_of body) n (position_below p (list_of body) n at) in leads-delete way n whole body found.0 here found.1

pub clear_yields : (way : List ℕ) (whole body : Items) (p : Item → Bool) → body_at way whole ≡ Some body → is_ok (cleared_at (position p (list_of body)) body) ≡ true
    → Yields way whole (cleared_at (position p (list_of body)) body) (drop_at way (position p (list_of body)))
clear_yields way whole body p here ok = by_case (position p (list_of body)) refl ok
  where
    by_case : (o : Option ℕ) → position p (list_of body) ≡ o → is_ok (cleared_at o body) ≡ true → Yields way whole (cleared_at o body) (drop_at way o)
    by_case None at h = cc
    by_case (Some n) at h = record { new = remove_item n body; made = refl; leads = dropped way whole body p n here at }

pub unassign_yields : (way : List ℕ) (whole body : Items) (p : Item → Bool) → body_at way whole ≡ Some body → is_ok (unassigned_at (position p (list_of body)) body) ≡ true
    → Yields way whole (unassigned_at (position p (list_of body)) body) (drop_at way (position p (list_of body)))
unassign_yields way whole body p here ok = by_case (position p (list_of body)) refl ok
  where
    by_case : (o : Option ℕ) → position p (list_of body) ≡ o → is_ok (unassigned_at o body) ≡ true → Yields way whole (unassigned_at o body) (drop_at way o)
    by_case None at h = cc
    by_case (Some n) at h = record { new = remove_item n body; made = refl; leads = dropped way whole body p n here at }

-- ---- A shell changed.

pub reshape_yields : (way : List ℕ) (whole body : Items) (n : ℕ) (change : Shell → Shell) → body_at way whole ≡ Some body → is_ok (reshaped change n body) ≡ true
    → Yields way whole (reshaped change n body) (reshape change (way ++ n ∷ []) (slice_get (list_of body) n))
reshape_yields way whole body n change here ok = by_item (slice_get (list_of body) n) refl ok
  where
    by_item : (o : Option Item) → slice_get (list_of body) n ≡ o → is_ok (reshaped_at change n body o) ≡ true → Yields way whole (reshaped_at change n body o) (reshape change (way ++ n ∷ []) o)
    by_item None got h = cc
    by_item (Some (Define m c)) got h = cc
    by_item (Some (Instance s of)) got h = record {
      new = replace_item n (Instance (change s) of) body;
      made = refl;
      leads = to_next way whole _ _ _ (exchange-replace n (OfShell (change s)) body (Instance s of) (Instance (change s) of) got refl)
          (leads-exchange way n (OfShell (change s)) whole body (Instance s of) here got refl);
    }
    by_item (Some (Own p v)) got h = cc
    by_item (Some (Default p v)) got h = cc
    by_item (Some (Dynamic t p v)) got h = cc
