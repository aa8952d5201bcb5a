-- A step of an edit is never refused for want of memory.
use Rattle.std.proofs.Common.{◌≡◌, ℕ, Bool, true, false, cond, List, [], length, ◌==◌, Option, Some, None, Result, Ok, Err, subst}
use Rattle.std.specs.Prelude.{◌-◌, slice_get, slice_index}
use Rattle.std.specs.List.{list_all, position}
use Rattle.rdl_elab.specs.Faults.{elaborated}
use Rattle.rdl_elab.specs.declared.row.Row.{Row}
use Rattle.rdl_tree.specs.ItemAt.{item_at}
use Rattle.rdl_tree.specs.Address.{body_at}
use Rattle.rdl_tree.specs.Edit.{remove_item}
use Rattle.rdl_tree.specs.Find.{find}
use Rattle.rdl_tree.specs.Items.{Items}
use Rattle.rdl_tree.specs.View.{list_of}
use Rattle.rdl_tree.specs.declared.description.Item.{Item}
use Rattle.rdl_tree.specs.declared.description.Item.TheVariants.{Instance}
use Rattle.rdl_tree.specs.declared.fault.Fault.{Fault}
use Rattle.rdl_tree.specs.declared.path.PathFault.{PathFault}
use Rattle.rdl_tree.specs.declared.path.PathFault.TheVariants as path_fault
use Rattle.rdl_tree.specs.declared.shell.Shell.{Shell}
use Rattle.rdl_rewrite.specs.Assignment.{cleared_at}
use Rattle.rdl_rewrite.specs.Change.{is_component, taken, insert_items, added_at, added, put_in, moved_item, edited_body}
use Rattle.rdl_rewrite.specs.Dynamics.{assigns_to, unassigned_at}
use Rattle.rdl_rewrite.specs.Place.{place_number}
use Rattle.rdl_rewrite.specs.Removal.{is_in_use, staying, goes, removed}
use Rattle.rdl_rewrite.specs.Renaming.{is_taken, is_reserved, renamed_items, renamed}
use Rattle.rdl_rewrite.specs.Rewritten.{rewritten, is_of_item, by_way, of_item, at_body, change_body, put_body, path_of, refusal_of as of_path}
use Rattle.rdl_rewrite.specs.Shell.{reshaped_at, edited_shell}
use Rattle.rdl_rewrite.specs.declared.edit.Edit.{Edit}
use Rattle.rdl_rewrite.specs.declared.edit.Edit.TheVariants.{Add, Remove, Rename, Move, SetOwn, SetDefault, ClearOwn, ClearDefault, Assign, Unassign}
use Rattle.rdl_rewrite.specs.declared.edit.PatchRefusal.{PatchRefusal}
use Rattle.rdl_rewrite.specs.declared.edit.PatchRefusal.TheVariants as first
use Rattle.rdl_rewrite.specs.declared.place.Place.{Place}
use Rattle.rdl_edit.specs.Step.{State, Refuses, refusal_of, judged, judged_anew, step}
use Rattle.rdl_edit.specs.declared.refusal.Refusal.{Refusal}
use Rattle.rdl_edit.specs.declared.refusal.Refusal.TheVariants as refusals

-- ---- Rewriting.

-- it isn't refused for want of memory
abbrev Real : Result Items PatchRefusal → Type 0
Real (Ok d) = Unit {0}
Real (Err first.Memory) = ⊥
Real (Err refusal) = Unit {0}

either : (b : Bool) (r q : Result Items PatchRefusal) → Real r → Real q → Real (cond b r q)
either true r q p s = p
either false r q p s = s

added_at-real : (number : Option ℕ) (whole new b : Items) → Real (added_at number whole new b)
added_at-real None whole new b = tt
added_at-real (Some number) whole new b = either (taken whole new b) (Err first.NameTaken) (Ok (insert_items number new b)) tt tt

added-real : (whole : Items) (place : Place) (new b : Items) → Real (added whole place new b)
added-real whole place new b =
    either (list_all is_component (list_of new)) (added_at (place_number place (list_of b)) whole new b) (Err first.NotAddable)
    (added_at-real (place_number place (list_of b)) whole new b) tt

put_in-real : (number : Option ℕ) (x : Item) (others : Items) → Real (put_in number x others)
put_in-real None x others = tt
put_in-real (Some number) x others = tt

moved_item-real : (x : Option Item) (place : Place) (others : Items) → Real (moved_item x place others)
moved_item-real None place others = tt
moved_item-real (Some x) place others = put_in-real (place_number place (list_of others)) x others

cleared_at-real : (number : Option ℕ) (b : Items) → Real (cleared_at number b)
cleared_at-real (Some number) b = tt
cleared_at-real None b = tt

unassigned_at-real : (number : Option ℕ) (b : Items) → Real (unassigned_at number b)
unassigned_at-real (Some number) b = tt
unassigned_at-real None b = tt

reshaped_at-real : (change : Shell → Shell) (number : ℕ) (b : Items) (x : Option Item) → Real (reshaped_at change number b x)
reshaped_at-real change number b (Some (Instance s of)) = tt
reshaped_at-real change number b x = tt

edited_body-real : (whole : Items) (number : ℕ) (e : Edit) (b : Items) → Real (edited_body whole number e b)
edited_body-real whole number (Add path place new) b = added-real whole place new b
edited_body-real whole number (Move path place) b = moved_item-real (slice_get (list_of b) number) place (remove_item number b)
edited_body-real whole number (SetOwn path property value) b = tt
edited_body-real whole number (SetDefault path property value) b = tt
edited_body-real whole number (ClearOwn path property) b = cleared_at-real _ b
edited_body-real whole number (ClearDefault path property) b = cleared_at-real _ b
edited_body-real whole number (Assign path target property value) b = tt
edited_body-real whole number (Unassign path target property) b = unassigned_at-real (position (assigns_to target property) (list_of b)) b
edited_body-real whole number e b = reshaped_at-real (edited_shell e) number b (slice_get (list_of b) number)

put_body-real : (way : List ℕ) (whole : Items) (r : Result Items PatchRefusal) → Real r → Real (put_body way whole r)
put_body-real way whole (Ok new) h = tt
put_body-real way whole (Err refusal) h = h

change_body-real : (way : List ℕ) (whole : Items) (change : Items → Result Items PatchRefusal) (b : Option Items) → ((b : Items) → Real (change b)) → Real (change_body way whole change b)
change_body-real way whole change None h = tt
change_body-real way whole change (Some b) h = put_body-real way whole (change b) (h b)

at_body-real : (way : List ℕ) (whole : Items) (number : ℕ) (e : Edit) → Real (at_body way whole (edited_body whole number e))
at_body-real way whole number e = change_body-real way whole (edited_body whole number e) (body_at way whole) (edited_body-real whole number e)

removed-real : (whole : Items) (way : List ℕ) → Real (removed whole way)
removed-real whole way = either (is_in_use whole way) (Err first.InUse) (Ok (staying (goes whole way) [] 0 whole)) tt tt

renamed-real : (whole : Items) (way name : List ℕ) → Real (renamed whole way name)
renamed-real whole way name =
    let unreserved = cond (is_reserved name) (Err first.Reserved) (Ok (renamed_items whole way name [] 0 whole)) in
    either (is_taken whole way name (item_at way whole)) (Err first.NameTaken) unreserved tt
    (either (is_reserved name) (Err first.Reserved) (Ok (renamed_items whole way name [] 0 whole)) tt tt)

of_item-real : (way : List ℕ) (whole : Items) (e : Edit) → Real (of_item way whole e)
of_item-real way whole (Remove path) = removed-real whole way
of_item-real way whole (Rename path name) = renamed-real whole way name
of_item-real way whole e = at_body-real _ whole (slice_index way (length way - 1)) e

of_path-real : (fault : PathFault) → Real (Err (of_path fault))
of_path-real path_fault.NoSuchName = tt
of_path-real path_fault.ThroughNamedType = tt

by_way-real : (way : Result (List ℕ) PathFault) (whole : Items) (e : Edit) → Real (by_way way whole e)
by_way-real (Err fault) whole e = of_path-real fault
by_way-real (Ok way) whole e =
    let inside = cond (length way == 0) (Err first.NotAnInstance) (of_item way whole e) in
    either (is_of_item e) inside (at_body way whole (edited_body whole 0 e))
    (either (length way == 0) (Err first.NotAnInstance) (of_item way whole e) tt (of_item-real way whole e)) (at_body-real way whole 0 e)

rewritten-real : (whole : Items) (e : Edit) → Real (rewritten whole e)
rewritten-real whole e = by_way-real (find (path_of e) whole) whole e

-- ---- Steps.

abbrev IsReal : Refusal → Type 0
IsReal refusals.Memory = ⊥
IsReal refusal = Unit {0}

refusal_of-real : (refusal : PatchRefusal) → Real (Err refusal) → IsReal (refusal_of refusal)
refusal_of-real first.Memory h = absurd h
refusal_of-real refusal h = tt

abbrev IsRealStep : Result State Refusal → Type 0
IsRealStep (Ok s) = Unit {0}
IsRealStep (Err refusal) = IsReal refusal

judged-real : (s : State) (r : Result (List Row) Fault) → IsRealStep (judged s r)
judged-real s (Ok rows) = tt
judged-real s (Err fault) = tt

judged_anew-real : (option : Option (List ℕ)) (r : Result Items PatchRefusal) → Real r → IsRealStep (judged_anew option r)
judged_anew-real option (Ok d) h = judged-real (record { description = d; option = option }) (elaborated d option)
judged_anew-real option (Err refusal) h = refusal_of-real refusal h

pub step-real : (s : State) (e : Edit) → step s e ≡ Err refusals.Memory → ⊥
step-real s e is = subst IsRealStep is (judged_anew-real s.option (rewritten s.description e) (rewritten-real s.description e))

pub step-refuses : (s : State) (e : Edit) (refusal : Refusal) → step s e ≡ Err refusal → Refuses s e refusal
step-refuses s e refusals.Memory h = tt
step-refuses s e refusal h = h
