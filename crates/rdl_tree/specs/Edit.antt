-- The items of a body, with one put in, taken out, moved or replaced.
-- own: SystemRDL 2.0 has no edits.
use Rattle.std.specs.Prelude.{ℕ, List, insert, remove, Option, Some, None, slice_get, slice_set}
use Rattle.rdl_tree.specs.Items.{Items}
use Rattle.rdl_tree.specs.View.{items_of, list_of}
use Rattle.rdl_tree.specs.declared.description.Item.{Item}

-- the items, with one more that has this number
abbrev pub insert_item : ℕ → Item → Items → Items
insert_item number x b = items_of (insert (list_of b) number x)

-- the items without the one of this number
abbrev pub remove_item : ℕ → Items → Items
remove_item number b = items_of (remove (list_of b) number)

-- the items, with another in the place of the one of this number
abbrev pub replace_item : ℕ → Item → Items → Items
replace_item number x b = items_of (slice_set (list_of b) number x)

-- these items, and one more, if there is one, that has this number
abbrev pub put_back : ℕ → List Item → Option Item → List Item
put_back number xs None = xs
put_back number xs (Some x) = insert xs number x

-- the items with the one of number `from` taken out and put in again, where it has number `to`
abbrev pub shift_item : ℕ → ℕ → Items → Items
shift_item from to b = items_of (put_back to (remove (list_of b) from) (slice_get (list_of b) from))
