-- The description that an edit makes, or its first refusal.
-- own: SystemRDL 2.0 has no edits.
use Rattle.std.specs.Prelude.{ℕ, ◌==◌, Bool, true, false, if◌then◌else◌, List, length, Option, Some, None, Result, Ok, Err}
use Rattle.rdl_tree.specs.Items.{Items}
use Rattle.rdl_tree.specs.Address.{holder_of, number_of, body_at, map_body}
use Rattle.rdl_tree.specs.Find.{find}
use Rattle.rdl_tree.specs.declared.path.Segment.{Segment}
use Rattle.rdl_tree.specs.declared.path.PathFault.{PathFault}
use Rattle.rdl_tree.specs.declared.path.PathFault.TheVariants as fault
use Rattle.rdl_rewrite.specs.Change.{edited_body}
use Rattle.rdl_rewrite.specs.Removal.{removed}
use Rattle.rdl_rewrite.specs.Renaming.{renamed}
use Rattle.rdl_rewrite.specs.declared.edit.Edit.{Edit}
use Rattle.rdl_rewrite.specs.declared.edit.Edit.TheVariants.{Add, Remove, Rename, Move, Resize, SetBits, SetAddress, SetStride, SetAlign, SetReset, SetOwn, SetDefault, ClearOwn, ClearDefault, Assign, Unassign}
use Rattle.rdl_rewrite.specs.declared.edit.PatchRefusal.{PatchRefusal}
use Rattle.rdl_rewrite.specs.declared.edit.PatchRefusal.TheVariants.{NoSuchPath, ThroughNamedType, NotAnInstance}

abbrev pub path_of : Edit → List Segment
path_of (Add path place new) = path
path_of (Remove path) = path
path_of (Rename path name) = path
path_of (Move path place) = path
path_of (Resize path new) = path
path_of (SetBits path new) = path
path_of (SetAddress path new) = path
path_of (SetStride path new) = path
path_of (SetAlign path new) = path
path_of (SetReset path new) = path
path_of (SetOwn path property value) = path
path_of (SetDefault path property value) = path
path_of (ClearOwn path property) = path
path_of (ClearDefault path property) = path
path_of (Assign path target property value) = path
path_of (Unassign path target property) = path

-- the path leads to an item; to a body in the others
abbrev pub is_of_item : Edit → Bool
is_of_item (Add path place new) = false
is_of_item (SetOwn path property value) = false
is_of_item (SetDefault path property value) = false
is_of_item (ClearOwn path property) = false
is_of_item (ClearDefault path property) = false
is_of_item (Assign path target property value) = false
is_of_item (Unassign path target property) = false
is_of_item e = true

abbrev pub refusal_of : PathFault → PatchRefusal
refusal_of fault.NoSuchName = NoSuchPath
refusal_of fault.ThroughNamedType = ThroughNamedType

-- the whole with the changed body in its place
abbrev pub put_body : List ℕ → Items → Result Items PatchRefusal → Result Items PatchRefusal
put_body way whole (Ok new) = Ok (map_body way (λ _. new) whole)
put_body way whole (Err refusal) = Err refusal

-- the body at this address changed; an instance of a named type has none
abbrev pub change_body : List ℕ → Items → (Items → Result Items PatchRefusal) → Option Items → Result Items PatchRefusal
change_body way whole change None = Err ThroughNamedType
change_body way whole change (Some b) = put_body way whole (change b)

abbrev pub at_body : List ℕ → Items → (Items → Result Items PatchRefusal) → Result Items PatchRefusal
at_body way whole change = change_body way whole change (body_at way whole)

-- removing and renaming reach every body; the other edits change the one that holds the item
abbrev pub of_item : (way : List ℕ) → (whole : Items) → Edit → Result Items PatchRefusal
of_item way whole (Remove path) = removed whole way
of_item way whole (Rename path name) = renamed whole way name
of_item way whole e = at_body (holder_of way) whole (edited_body whole (number_of way) e)

-- the root is no item
abbrev pub by_way : Result (List ℕ) PathFault → Items → Edit → Result Items PatchRefusal
by_way (Err fault) whole e = Err (refusal_of fault)
by_way (Ok way) whole e =
    if is_of_item e
    then (if length way == 0 then Err NotAnInstance else of_item way whole e)
    else at_body way whole (edited_body whole 0 e)

abbrev pub rewritten : Items → Edit → Result Items PatchRefusal
rewritten whole e = by_way (find (path_of e) whole) whole e
