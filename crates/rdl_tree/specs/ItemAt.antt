-- The item at an address: each number but the last leads to an item's own body, and the last to an item there.
-- own: SystemRDL 2.0 names components by paths of names; item numbers are this project's.
use Rattle.std.specs.Prelude.{ℕ, List, [], ◌∷◌, Option, None, slice_get, option_and_then}
use Rattle.rdl_tree.specs.Items.{Items}
use Rattle.rdl_tree.specs.View.{list_of}
use Rattle.rdl_tree.specs.Address.{inner}
use Rattle.rdl_tree.specs.declared.description.Item.{Item}

abbrev pub item_at : List ℕ → Items → Option Item
item_at [] t = None
item_at (i ∷ []) t = slice_get (list_of t) i
item_at (i ∷ j ∷ path) t = option_and_then (item_at (j ∷ path)) (inner i t)
