-- The body at an address, and the tree with another body there.
-- own: SystemRDL 2.0 names components by paths of names; item numbers are this project's.
use Rattle.std.specs.Prelude.{ℕ, zero, suc, ◌-◌, List, [], ◌∷◌, length, take, slice_index, Option, Some, None, option_and_then}
use Rattle.rdl_tree.specs.Items.{Items, no_items, plain, holder}

-- an item's address is that of the body that holds it, and then the item's number
abbrev pub holder_of : List ℕ → List ℕ
holder_of at = take (length at - 1) at

abbrev pub number_of : List ℕ → ℕ
number_of at = slice_index at (length at - 1)

-- the body of item i, if that has a component of its own
abbrev pub inner : ℕ → Items → Option Items
inner i no_items = None
inner zero (plain p rest) = None
inner zero (holder h body rest) = Some body
inner (suc i) (plain p rest) = inner i rest
inner (suc i) (holder h body rest) = inner i rest

-- the items with the body of item i changed, where there is one
abbrev pub map_inner : ℕ → (Items → Items) → Items → Items
map_inner i f no_items = no_items
map_inner zero f (plain p rest) = plain p rest
map_inner zero f (holder h body rest) = holder h (f body) rest
map_inner (suc i) f (plain p rest) = plain p (map_inner i f rest)
map_inner (suc i) f (holder h body rest) = holder h body (map_inner i f rest)

abbrev pub body_at : List ℕ → Items → Option Items
body_at [] t = Some t
body_at (i ∷ path) t = option_and_then (body_at path) (inner i t)

-- the items with the body at a path changed, where there is one
abbrev pub map_body : List ℕ → (Items → Items) → Items → Items
map_body [] f t = f t
map_body (i ∷ path) f t = map_inner i (map_body path f) t
