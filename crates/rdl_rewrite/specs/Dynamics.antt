-- The assignments of a body to what stands inside its instances.
-- SystemRDL 2.0, clause 5, dynamic assignment; the edits are this project's.
use Rattle.std.specs.Prelude.{ℕ, Bool, false, ◌&&◌, bytes_eq, List, length, Option, Some, None, Result, Ok, Err}
use Rattle.std.specs.List.{position}
use Rattle.std.specs.Cmp.Lexicographic.{pointwise}
use Rattle.rdl_tree.specs.Items.{Items}
use Rattle.rdl_tree.specs.View.{list_of}
use Rattle.rdl_tree.specs.Edit.{insert_item, remove_item, replace_item}
use Rattle.rdl_tree.specs.declared.description.Item.{Item}
use Rattle.rdl_tree.specs.declared.description.Item.TheVariants.{Dynamic}
use Rattle.rdl_tree.specs.declared.value.Value.{Value}
use Rattle.rdl_rewrite.specs.declared.edit.PatchRefusal.{PatchRefusal}
use Rattle.rdl_rewrite.specs.declared.edit.PatchRefusal.TheVariants.{NotSet}

-- the item assigns this property of what the same names lead to
abbrev pub assigns_to : (target : List (List ℕ)) → (property : List ℕ) → Item → Bool
assigns_to target property (Dynamic t p v) = pointwise bytes_eq t target && bytes_eq p property
assigns_to target property x = false

-- the assignment in the place of the one that is there; else behind all items
abbrev pub assigned_at : Option ℕ → List (List ℕ) → List ℕ → Value → Items → Items
assigned_at (Some number) target property value b = replace_item number (Dynamic target property value) b
assigned_at None target property value b = insert_item (length (list_of b)) (Dynamic target property value) b

abbrev pub assigned : List (List ℕ) → List ℕ → Value → Items → Items
assigned target property value b = assigned_at (position (assigns_to target property) (list_of b)) target property value b

-- without the assignment that is there
abbrev pub unassigned_at : Option ℕ → Items → Result Items PatchRefusal
unassigned_at (Some number) b = Ok (remove_item number b)
unassigned_at None b = Err NotSet

abbrev pub unassigned : List (List ℕ) → List ℕ → Items → Result Items PatchRefusal
unassigned target property b = unassigned_at (position (assigns_to target property) (list_of b)) b
