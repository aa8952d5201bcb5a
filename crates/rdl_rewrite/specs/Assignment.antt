-- The assignments of a body to properties: its own and its defaults.
-- SystemRDL 2.0, clause 5, property assignment and default property assignments; the edits are this project's.
use Rattle.std.specs.Prelude.{ℕ, ◌+◌, Bool, true, false, if◌then◌else◌, bytes_eq, List, [], ◌∷◌, Option, Some, None, Result, Ok, Err}
use Rattle.std.specs.List.{list_any, position}
use Rattle.rdl_tree.specs.Items.{Items}
use Rattle.rdl_tree.specs.View.{list_of}
use Rattle.rdl_tree.specs.Edit.{insert_item, remove_item, replace_item}
use Rattle.rdl_tree.specs.declared.description.Item.{Item}
use Rattle.rdl_tree.specs.declared.description.Item.TheVariants as item
use Rattle.rdl_tree.specs.declared.value.Value.{Value}
use Rattle.rdl_rewrite.specs.declared.assignment.Sort.{Sort}
use Rattle.rdl_rewrite.specs.declared.assignment.Sort.TheVariants.{Own, Default}
use Rattle.rdl_rewrite.specs.declared.edit.PatchRefusal.{PatchRefusal}
use Rattle.rdl_rewrite.specs.declared.edit.PatchRefusal.TheVariants.{NotSet}

-- the item is an assignment of this sort
abbrev pub is_sort : Sort → Item → Bool
is_sort Own (item.Own p v) = true
is_sort Default (item.Default p v) = true
is_sort sort x = false

-- the item is an assignment of this sort to the property
abbrev pub assigns : Sort → List ℕ → Item → Bool
assigns Own property (item.Own p v) = bytes_eq p property
assigns Default property (item.Default p v) = bytes_eq p property
assigns sort property x = false

abbrev pub assignment : Sort → List ℕ → Value → Item
assignment Own property value = item.Own property value
assignment Default property value = item.Default property value

-- how many items there are up to the last that passes; 0 where none does
abbrev pub up_to_last : (Item → Bool) → List Item → ℕ
up_to_last passes [] = 0
up_to_last passes (x ∷ xs) = if list_any passes (x ∷ xs) then 1 + up_to_last passes xs else 0

-- the assignment in the place of the one that is there; else behind the last of its sort, or first
abbrev pub set_at : Option ℕ → Sort → List ℕ → Value → Items → Items
set_at (Some number) sort property value b = replace_item number (assignment sort property value) b
set_at None sort property value b = insert_item (up_to_last (is_sort sort) (list_of b)) (assignment sort property value) b

abbrev pub set : Sort → List ℕ → Value → Items → Items
set sort property value b = set_at (position (assigns sort property) (list_of b)) sort property value b

-- without the assignment that is there
abbrev pub cleared_at : Option ℕ → Items → Result Items PatchRefusal
cleared_at (Some number) b = Ok (remove_item number b)
cleared_at None b = Err NotSet

abbrev pub cleared : Sort → List ℕ → Items → Result Items PatchRefusal
cleared sort property b = cleared_at (position (assigns sort property) (list_of b)) b
