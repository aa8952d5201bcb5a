-- What an edit makes of the one body that it changes, or why it is refused.
-- own: SystemRDL 2.0 has no edits.
use Rattle.std.specs.Prelude.{ℕ, Bool, true, false, ◌||◌, if◌then◌else◌, ◌++◌, take, drop, Option, Some, None, Result, Ok, Err, slice_get}
use Rattle.std.specs.List.{list_all}
use Rattle.rdl_tree.specs.Items.{Items}
use Rattle.rdl_tree.specs.View.{items_of, list_of}
use Rattle.rdl_tree.specs.Edit.{insert_item, remove_item}
use Rattle.rdl_tree.specs.declared.description.Item.{Item}
use Rattle.rdl_tree.specs.declared.description.Item.TheVariants.{Define, Instance}
use Rattle.rdl_rewrite.specs.Names.{clash, defined_names, instance_names}
use Rattle.rdl_rewrite.specs.Place.{place_number}
use Rattle.rdl_rewrite.specs.Assignment.{cleared, set}
use Rattle.rdl_rewrite.specs.Dynamics.{assigned, unassigned}
use Rattle.rdl_rewrite.specs.Shell.{edited_shell, reshaped}
use Rattle.rdl_rewrite.specs.declared.assignment.Sort.TheVariants.{Own, Default}
use Rattle.rdl_rewrite.specs.declared.place.Place.{Place}
use Rattle.rdl_rewrite.specs.declared.edit.Edit.{Edit}
use Rattle.rdl_rewrite.specs.declared.edit.Edit.TheVariants.{Add, Move, SetOwn, SetDefault, ClearOwn, ClearDefault, Assign, Unassign}
use Rattle.rdl_rewrite.specs.declared.edit.PatchRefusal.{PatchRefusal}
use Rattle.rdl_rewrite.specs.declared.edit.PatchRefusal.TheVariants.{NameTaken, NotAddable, NotAnInstance, NoSuchSibling}

-- ---- Items more.

-- a definition or an instance
abbrev pub is_component : Item → Bool
is_component (Define n c) = true
is_component (Instance s of) = true
is_component x = false

-- the name of a definition anywhere in the whole, or of an instance in the same body
abbrev pub taken : (whole : Items) → (new : Items) → (body : Items) → Bool
taken whole new body = clash (defined_names new) (defined_names whole) || clash (instance_names (list_of new)) (instance_names (list_of body))

-- these items, with the new ones from this number on
abbrev pub insert_items : ℕ → (new : Items) → Items → Items
insert_items number new b = items_of (take number (list_of b) ++ list_of new ++ drop number (list_of b))

abbrev pub added_at : Option ℕ → (whole : Items) → (new : Items) → Items → Result Items PatchRefusal
added_at None whole new b = Err NoSuchSibling
added_at (Some number) whole new b = if taken whole new b then Err NameTaken else Ok (insert_items number new b)

abbrev pub added : (whole : Items) → Place → (new : Items) → Items → Result Items PatchRefusal
added whole place new b =
    if list_all is_component (list_of new) then added_at (place_number place (list_of b)) whole new b else Err NotAddable

-- ---- An item out, and in again among the others.

abbrev pub put_in : Option ℕ → Item → Items → Result Items PatchRefusal
put_in None x others = Err NoSuchSibling
put_in (Some number) x others = Ok (insert_item number x others)

abbrev pub moved_item : Option Item → Place → (others : Items) → Result Items PatchRefusal
moved_item None place others = Err NotAnInstance
moved_item (Some x) place others = put_in (place_number place (list_of others)) x others

abbrev pub moved : Place → ℕ → Items → Result Items PatchRefusal
moved place number b = moved_item (slice_get (list_of b) number) place (remove_item number b)

-- ---- Every edit of one body. The number is that of the item, for an edit of an item.

abbrev pub edited_body : (whole : Items) → ℕ → Edit → Items → Result Items PatchRefusal
edited_body whole number (Add path place new) b = added whole place new b
edited_body whole number (Move path place) b = moved place number b
edited_body whole number (SetOwn path property value) b = Ok (set Own property value b)
edited_body whole number (SetDefault path property value) b = Ok (set Default property value b)
edited_body whole number (ClearOwn path property) b = cleared Own property b
edited_body whole number (ClearDefault path property) b = cleared Default property b
edited_body whole number (Assign path target property value) b = Ok (assigned target property value b)
edited_body whole number (Unassign path target property) b = unassigned target property b
edited_body whole number e b = reshaped (edited_shell e) number b
