-- The parts of an item that can be replaced where it stands.
-- own: SystemRDL 2.0 has no edits.
use Rattle.std.specs.Prelude.{ℕ, Bool, true, false, List, Option, Some, None, option_map, slice_get, slice_set}
use Rattle.rdl_tree.specs.Items.{Items}
use Rattle.rdl_tree.specs.View.{items_of, list_of}
use Rattle.rdl_tree.specs.declared.part.Part.{Part}
use Rattle.rdl_tree.specs.declared.part.Part.TheVariants as part
use Rattle.rdl_tree.specs.declared.description.Item.{Item}
use Rattle.rdl_tree.specs.declared.description.Item.TheVariants.{Define, Instance, Own, Default, Dynamic}
use Rattle.rdl_tree.specs.declared.description.Of.TheVariants.{Named}

-- the item has a part of this one's sort
abbrev pub has_part : Part → Item → Bool
has_part (part.OfShell new) (Instance s o) = true
has_part (part.OfValue new) (Own p v) = true
has_part (part.OfValue new) (Default p v) = true
has_part (part.OfValue new) (Dynamic t p v) = true
has_part (part.OfTarget new) (Dynamic t p v) = true
has_part (part.OfType new) (Instance s (Named t)) = true
has_part (part.OfDefine new) (Define n c) = true
has_part new x = false

-- the item with this part in the place of its own; one that has no such part stays
abbrev pub with_part : Part → Item → Item
with_part (part.OfShell new) (Instance s o) = Instance new o
with_part (part.OfValue new) (Own p v) = Own p new
with_part (part.OfValue new) (Default p v) = Default p new
with_part (part.OfValue new) (Dynamic t p v) = Dynamic t p new
with_part (part.OfTarget new) (Dynamic t p v) = Dynamic new p v
with_part (part.OfType new) (Instance s (Named t)) = Instance s (Named new)
with_part (part.OfDefine new) (Define n c) = Define new c
with_part new x = x

-- the item's own part of this one's sort; where it has none, this one
abbrev pub part_of : Part → Item → Part
part_of (part.OfShell new) (Instance s o) = part.OfShell s
part_of (part.OfValue new) (Own p v) = part.OfValue v
part_of (part.OfValue new) (Default p v) = part.OfValue v
part_of (part.OfValue new) (Dynamic t p v) = part.OfValue v
part_of (part.OfTarget new) (Dynamic t p v) = part.OfTarget t
part_of (part.OfType new) (Instance s (Named t)) = part.OfType t
part_of (part.OfDefine new) (Define n c) = part.OfDefine n
part_of new x = new

-- the items, with another in the place of the one of this number, if there is one
abbrev pub put_at : ℕ → Option Item → List Item → List Item
put_at number None xs = xs
put_at number (Some x) xs = slice_set xs number x

-- the items with the part in the place of the one of the item of this number
abbrev pub with_part_at : ℕ → Part → Items → Items
with_part_at number new b = items_of (put_at number (option_map (with_part new) (slice_get (list_of b) number)) (list_of b))

-- the part of the item of this number
abbrev pub part_at : ℕ → Part → Items → Option Part
part_at number new b = option_map (part_of new) (slice_get (list_of b) number)
