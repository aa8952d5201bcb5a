-- What an edit must bring, so that what holds of each item of the old map holds of each item of the new one.
use Rattle.std.proofs.Common.{◌≡◌, ℕ, suc, Bool, true, false, cond, if◌then◌else◌, List, [], ◌∷◌, ◌++◌, length, Option, Some, None, Result, Ok, Err, IfOk, IfSome, drop, take, slice_get, position, refl}
use Rattle.std.specs.List.{list_all}
use Rattle.std.specs.Prelude.{◌==◌}
use Rattle.std.proofs.lemmas.List.Elements.{All-append, All-take, All-drop}
use Rattle.rdl_tree.specs.ItemAt.{item_at}
use Rattle.rdl_tree.specs.Address.{holder_of, number_of, body_at}
use Rattle.rdl_tree.specs.Edit.{remove_item}
use Rattle.rdl_tree.specs.Find.{find}
use Rattle.rdl_tree.specs.Items.{Items, no_items, plain, holder, Plain, named, own, default, dynamic, Holder, anonymous}
use Rattle.rdl_tree.specs.View.{list_of}
use Rattle.rdl_tree.specs.declared.description.Item.{Item}
use Rattle.rdl_tree.specs.declared.description.Item.TheVariants.{Define, Instance, Own, Default, Dynamic}
use Rattle.rdl_tree.specs.declared.description.Of.TheVariants.{Named, Anonymous}
use Rattle.rdl_tree.specs.declared.path.PathFault.{PathFault}
use Rattle.rdl_tree.specs.declared.shell.Kind.{Kind}
use Rattle.rdl_tree.specs.declared.shell.Shell.{Shell}
use Rattle.rdl_tree.specs.declared.value.Value.{Value}
use Rattle.rdl_rewrite.specs.Assignment.{is_sort, assigns, up_to_last, assignment, set_at, cleared_at}
use Rattle.rdl_rewrite.specs.Change.{is_component, taken, insert_items, added_at, put_in, moved_item, edited_body}
use Rattle.rdl_rewrite.specs.Dynamics.{assigns_to, assigned_at, unassigned_at}
use Rattle.rdl_rewrite.specs.Place.{place_number}
use Rattle.rdl_rewrite.specs.Removal.{is_in_use, goes, staying}
use Rattle.rdl_rewrite.specs.Renaming.{is_reserved, renamed, is_taken, renamed_plain, renamed_holder, renamed_items}
use Rattle.rdl_rewrite.specs.Rewritten.{path_of, is_of_item, change_body, put_body, at_body, of_item, by_way, rewritten}
use Rattle.rdl_rewrite.specs.Shell.{edited_shell, reshaped_at, reshaped}
use Rattle.rdl_rewrite.specs.declared.assignment.Sort.{Sort}
use Rattle.rdl_rewrite.specs.declared.assignment.Sort.TheVariants as sort
use Rattle.rdl_rewrite.specs.declared.edit.Edit.{Edit}
use Rattle.rdl_rewrite.specs.declared.edit.Edit.TheVariants.{Add, Remove, Rename, Move, Resize, SetBits, SetAddress, SetStride, SetAlign, SetReset, SetOwn, SetDefault, ClearOwn, ClearDefault, Assign, Unassign}
use Rattle.rdl_rewrite.specs.declared.edit.PatchRefusal.{PatchRefusal}
use Rattle.rdl_rewrite.specs.declared.edit.PatchRefusal.TheVariants.{InUse, NameTaken, NotAddable, NotAnInstance, Reserved}
use Rattle.rdl_rewrite.specs.declared.place.Place.{Place}
use Rattle.rdl_round.proofs.Each.{chosen, Each, Fits, items-fit, each-of, fits-get, each-insert, each-remove, each-replace, body-each, changed-body}

-- the change of a shell keeps it of an instance
pub record KeptShell (P : Plain → Type 0) (H : Holder → Type 0) (change : Shell → Shell) : Type 0 where
  pub of_type : (s : Shell) (t : List ℕ) → P (named s t) → P (named (change s) t)
  pub of_component : (s : Shell) (k : Kind) → H (anonymous s k) → H (anonymous (change s) k)

-- the new name keeps it of each item, whatever is renamed
pub record KeptName (P : Plain → Type 0) (H : Holder → Type 0) (whole : Items) (name : List ℕ) : Type 0 where
  pub of_plain : (way at : List ℕ) (p : Plain) → P p → P (renamed_plain whole way name at p)
  pub of_holder : (way at : List ℕ) (h : Holder) → H h → H (renamed_holder way name at h)

-- what the edit brings
abbrev pub Brings : (P : Plain → Type 0) → (H : Holder → Type 0) → Items → Edit → Type 0
Brings P H whole (Add path place new) = Each P H new
Brings P H whole (Remove path) = Unit {0}
Brings P H whole (Rename path name) = is_reserved name ≡ false → KeptName P H whole name
Brings P H whole (Move path place) = Unit {0}
Brings P H whole (SetOwn path property value) = P (own property value)
Brings P H whole (SetDefault path property value) = P (default property value)
Brings P H whole (ClearOwn path property) = Unit {0}
Brings P H whole (ClearDefault path property) = Unit {0}
Brings P H whole (Assign path target property value) = P (dynamic target property value)
Brings P H whole (Unassign path target property) = Unit {0}
Brings P H whole e = KeptShell P H (edited_shell e)

module _ (P : Plain → Type 0) (H : Holder → Type 0) where
  unless : (z : Bool) (r : PatchRefusal) (x : Result Items PatchRefusal) → IfOk x (Each P H) → IfOk (cond z (Err r) x) (Each P H)
  unless true r x h = tt
  unless false r x h = h

  -- ---- One body.

  kept-insert : (n : ℕ) (new b : Items) → Each P H new → Each P H b → Each P H (insert_items n new b)
  kept-insert n new b f e =
      let xs = list_of b in
      let all = items-fit P H b e in
      let before = All-append (Fits P H) (take n xs) (list_of new) (All-take (Fits P H) n xs all) (items-fit P H new f) in
      each-of P H (take n xs ++ list_of new ++ drop n xs) (All-append (Fits P H) (take n xs ++ list_of new) (drop n xs) before (All-drop (Fits P H) n xs all))

  kept-added : (o : Option ℕ) (whole new b : Items) → Each P H new → Each P H b → IfOk (added_at o whole new b) (Each P H)
  kept-added None whole new b f e = tt
  kept-added (Some n) whole new b f e = unless (taken whole new b) NameTaken (Ok (insert_items n new b)) (kept-insert n new b f e)

  kept-add : (z : Bool) (whole : Items) (place : Place) (new b : Items) → Each P H new → Each P H b
      → IfOk (cond z (added_at (place_number place (list_of b)) whole new b) (Err NotAddable)) (Each P H)
  kept-add true whole place new b f e = kept-added (place_number place (list_of b)) whole new b f e
  kept-add false whole place new b f e = tt

  kept-put : (o : Option ℕ) (x : Item) (others : Items) → Fits P H x → Each P H others → IfOk (put_in o x others) (Each P H)
  kept-put None x others f e = tt
  kept-put (Some n) x others f e = each-insert P H n x others f e

  kept-move : (o : Option Item) (place : Place) (others : Items) → IfSome o (Fits P H) → Each P H others → IfOk (moved_item o place others) (Each P H)
  kept-move None place others f e = tt
  kept-move (Some x) place others f e = kept-put (place_number place (list_of others)) x others f e

  kept-set : (o : Option ℕ) (s : Sort) (property : List ℕ) (value : Value) (b : Items) → Fits P H (assignment s property value) → Each P H b → Each P H (set_at o s property value b)
  kept-set None s property value b f e = each-insert P H (up_to_last (is_sort s) (list_of b)) (assignment s property value) b f e
  kept-set (Some n) s property value b f e = each-replace P H n (assignment s property value) b f e

  kept-clear : (o : Option ℕ) (b : Items) → Each P H b → IfOk (cleared_at o b) (Each P H)
  kept-clear None b e = tt
  kept-clear (Some n) b e = each-remove P H n b e

  kept-assign : (o : Option ℕ) (target : List (List ℕ)) (property : List ℕ) (value : Value) (b : Items) → P (dynamic target property value) → Each P H b
      → Each P H (assigned_at o target property value b)
  kept-assign None target property value b f e = each-insert P H (length (list_of b)) (Dynamic target property value) b f e
  kept-assign (Some n) target property value b f e = each-replace P H n (Dynamic target property value) b f e

  kept-unassign : (o : Option ℕ) (b : Items) → Each P H b → IfOk (unassigned_at o b) (Each P H)
  kept-unassign None b e = tt
  kept-unassign (Some n) b e = each-remove P H n b e

  kept-shape : (change : Shell → Shell) (n : ℕ) (b : Items) (o : Option Item) → KeptShell P H change → IfSome o (Fits P H) → Each P H b → IfOk (reshaped_at change n b o) (Each P H)
  kept-shape change n b (Some (Instance s (Named t))) k f e = each-replace P H n (Instance (change s) (Named t)) b (k.of_type s t f) e
  kept-shape change n b (Some (Instance s (Anonymous c))) k f e = each-replace P H n (Instance (change s) (Anonymous c)) b (k.of_component s c.kind f.0, f.1) e
  kept-shape change n b (Some (Define m c)) k f e = tt
  kept-shape change n b (Some (Own p v)) k f e = tt
  kept-shape change n b (Some (Default p v)) k f e = tt
  kept-shape change n b (Some (Dynamic t p v)) k f e = tt
  kept-shape change n b None k f e = tt

  kept-reshape : (change : Shell → Shell) (n : ℕ) (b : Items) → KeptShell P H change → Each P H b → IfOk (reshaped change n b) (Each P H)
  kept-reshape change n b k e = kept-shape change n b (slice_get (list_of b) n) k (fits-get P H (list_of b) n (items-fit P H b e)) e

  kept-body : (whole : Items) (n : ℕ) (edit : Edit) (b : Items) → Brings P H whole edit → Each P H b → IfOk (edited_body whole n edit b) (Each P H)
  kept-body whole n (Add path place new) b f e = kept-add (list_all is_component (list_of new)) whole place new b f e
  kept-body whole n (Move path place) b f e = kept-move (slice_get (list_of b) n) place (remove_item n b) (fits-get P H (list_of b) n (items-fit P H b e)) (each-remove P H n b e)
  kept-body whole n (SetOwn path property value) b f e = kept-set (position (assigns sort.Own property) (list_of b)) sort.Own property value b f e
  kept-body whole n (SetDefault path property value) b f e = kept-set (position (assigns sort.Default property) (list_of b)) sort.Default property value b f e
  kept-body whole n (ClearOwn path property) b f e = kept-clear (position (assigns sort.Own property) (list_of b)) b e
  kept-body whole n (ClearDefault path property) b f e = kept-clear (position (assigns sort.Default property) (list_of b)) b e
  kept-body whole n (Assign path target property value) b f e = kept-assign (position (assigns_to target property) (list_of b)) target property value b f e
  kept-body whole n (Unassign path target property) b f e = kept-unassign (position (assigns_to target property) (list_of b)) b e
  kept-body whole n (Resize path new) b f e = kept-reshape (edited_shell (Resize path new)) n b f e
  kept-body whole n (SetBits path new) b f e = kept-reshape (edited_shell (SetBits path new)) n b f e
  kept-body whole n (SetAddress path new) b f e = kept-reshape (edited_shell (SetAddress path new)) n b f e
  kept-body whole n (SetStride path new) b f e = kept-reshape (edited_shell (SetStride path new)) n b f e
  kept-body whole n (SetAlign path new) b f e = kept-reshape (edited_shell (SetAlign path new)) n b f e
  kept-body whole n (SetReset path new) b f e = kept-reshape (edited_shell (SetReset path new)) n b f e
  kept-body whole n (Remove path) b f e = kept-reshape (edited_shell (Remove path)) n b (record { of_type = λ s t h. h; of_component = λ s k h. h }) e
  kept-body whole n (Rename path name) b f e = kept-reshape (edited_shell (Rename path name)) n b (record { of_type = λ s t h. h; of_component = λ s k h. h }) e

  kept-put_body : (way : List ℕ) (whole : Items) (r : Result Items PatchRefusal) → Each P H whole → IfOk r (Each P H) → IfOk (put_body way whole r) (Each P H)
  kept-put_body way whole (Ok new) e f = changed-body P H way (λ _. new) whole (λ b g. f) e
  kept-put_body way whole (Err refusal) e f = tt

  kept-change : (way : List ℕ) (whole : Items) (change : Items → Result Items PatchRefusal) (o : Option Items) → Each P H whole → IfSome o (Each P H)
      → ((b : Items) → Each P H b → IfOk (change b) (Each P H)) → IfOk (change_body way whole change o) (Each P H)
  kept-change way whole change None e f k = tt
  kept-change way whole change (Some b) e f k = kept-put_body way whole (change b) e (k b f)

  kept-at : (way : List ℕ) (whole : Items) (n : ℕ) (edit : Edit) → Brings P H whole edit → Each P H whole → IfOk (at_body way whole (edited_body whole n edit)) (Each P H)
  kept-at way whole n edit f e = kept-change way whole (edited_body whole n edit) (body_at way whole) e (body-each P H way whole e) (λ b. kept-body whole n edit b f)

  -- ---- All bodies.

  kept-staying : (out : List ℕ → Bool) (b : List ℕ) (n : ℕ) (t : Items) → Each P H t → Each P H (staying out b n t)
  kept-staying out b n no_items e = tt
  kept-staying out b n (plain p rest) e =
      let after = kept-staying out b (suc n) rest e.1 in
      chosen (Each P H) (out (b ++ n ∷ [])) (staying out b (suc n) rest) (plain p (staying out b (suc n) rest)) after (e.0, after)
  kept-staying out b n (holder h body rest) e =
      let inside = kept-staying out (b ++ n ∷ []) 0 body e.1 in
      let after = kept-staying out b (suc n) rest e.2 in
      chosen (Each P H) (out (b ++ n ∷ [])) (staying out b (suc n) rest) (holder h (staying out (b ++ n ∷ []) 0 body) (staying out b (suc n) rest)) after (e.0, inside, after)

  kept-items : (whole : Items) (way name b : List ℕ) (n : ℕ) (t : Items) → KeptName P H whole name → Each P H t → Each P H (renamed_items whole way name b n t)
  kept-items whole way name b n no_items k e = tt
  kept-items whole way name b n (plain p rest) k e = (k.of_plain way (b ++ n ∷ []) p e.0, kept-items whole way name b (suc n) rest k e.1)
  kept-items whole way name b n (holder h body rest) k e =
      (k.of_holder way (b ++ n ∷ []) h e.0, kept-items whole way name (b ++ n ∷ []) 0 body k e.1, kept-items whole way name b (suc n) rest k e.2)

  kept-name : (z : Bool) (whole : Items) (way name : List ℕ) → is_reserved name ≡ z → (is_reserved name ≡ false → KeptName P H whole name) → Each P H whole
      → IfOk (cond z (Err Reserved) (Ok (renamed_items whole way name [] 0 whole))) (Each P H)
  kept-name true whole way name h f e = tt
  kept-name false whole way name h f e = kept-items whole way name [] 0 whole (f h) e

  kept-rename : (whole : Items) (way name : List ℕ) → (is_reserved name ≡ false → KeptName P H whole name) → Each P H whole → IfOk (renamed whole way name) (Each P H)
  kept-rename whole way name f e =
      unless (is_taken whole way name (item_at way whole)) NameTaken (if is_reserved name then Err Reserved else Ok (renamed_items whole way name [] 0 whole))
      (kept-name (is_reserved name) whole way name refl f e)

  kept-item : (way : List ℕ) (whole : Items) (edit : Edit) → Brings P H whole edit → Each P H whole → IfOk (of_item way whole edit) (Each P H)
  kept-item way whole (Remove path) f e = unless (is_in_use whole way) InUse (Ok (staying (goes whole way) [] 0 whole)) (kept-staying (goes whole way) [] 0 whole e)
  kept-item way whole (Rename path name) f e = kept-rename whole way name f e
  kept-item way whole (Add path place new) f e = kept-at (holder_of way) whole (number_of way) (Add path place new) f e
  kept-item way whole (Move path place) f e = kept-at (holder_of way) whole (number_of way) (Move path place) f e
  kept-item way whole (Resize path new) f e = kept-at (holder_of way) whole (number_of way) (Resize path new) f e
  kept-item way whole (SetBits path new) f e = kept-at (holder_of way) whole (number_of way) (SetBits path new) f e
  kept-item way whole (SetAddress path new) f e = kept-at (holder_of way) whole (number_of way) (SetAddress path new) f e
  kept-item way whole (SetStride path new) f e = kept-at (holder_of way) whole (number_of way) (SetStride path new) f e
  kept-item way whole (SetAlign path new) f e = kept-at (holder_of way) whole (number_of way) (SetAlign path new) f e
  kept-item way whole (SetReset path new) f e = kept-at (holder_of way) whole (number_of way) (SetReset path new) f e
  kept-item way whole (SetOwn path property value) f e = kept-at (holder_of way) whole (number_of way) (SetOwn path property value) f e
  kept-item way whole (SetDefault path property value) f e = kept-at (holder_of way) whole (number_of way) (SetDefault path property value) f e
  kept-item way whole (ClearOwn path property) f e = kept-at (holder_of way) whole (number_of way) (ClearOwn path property) f e
  kept-item way whole (ClearDefault path property) f e = kept-at (holder_of way) whole (number_of way) (ClearDefault path property) f e
  kept-item way whole (Assign path target property value) f e = kept-at (holder_of way) whole (number_of way) (Assign path target property value) f e
  kept-item way whole (Unassign path target property) f e = kept-at (holder_of way) whole (number_of way) (Unassign path target property) f e

  -- ---- The edit.

  kept-way : (found : Result (List ℕ) PathFault) (whole : Items) (edit : Edit) → Brings P H whole edit → Each P H whole → IfOk (by_way found whole edit) (Each P H)
  kept-way (Err fault) whole edit f e = tt
  kept-way (Ok way) whole edit f e =
      let to_item = if length way == 0 then Err NotAnInstance else of_item way whole edit in
      let to_body = at_body way whole (edited_body whole 0 edit) in
      chosen (λ r. IfOk r (Each P H)) (is_of_item edit) to_item to_body
      (unless (length way == 0) NotAnInstance (of_item way whole edit) (kept-item way whole edit f e))
      (kept-at way whole 0 edit f e)

  pub kept : (whole : Items) (edit : Edit) → Brings P H whole edit → Each P H whole → IfOk (rewritten whole edit) (Each P H)
  kept whole edit f e = kept-way (find (path_of edit) whole) whole edit f e
