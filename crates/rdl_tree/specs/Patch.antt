-- Patches: changes of one item each, where it fits, what it makes of a description, and what takes it back.
-- own: SystemRDL 2.0 has no edits.
use Rattle.std.specs.Prelude.{ℕ, ◌+◌, Bool, false, ◌&&◌, IsTrue, nat_le, nat_lt, List, [], ◌∷◌, ◌++◌, length, Option, Some, None, is_some}
use Rattle.rdl_tree.specs.Items.{Items, no_items}
use Rattle.rdl_tree.specs.View.{add, list_of}
use Rattle.rdl_tree.specs.Address.{holder_of, number_of, body_at, map_body}
use Rattle.rdl_tree.specs.ItemAt.{item_at}
use Rattle.rdl_tree.specs.Depth.{depth}
use Rattle.rdl_tree.specs.Edit.{insert_item, remove_item, shift_item}
use Rattle.rdl_tree.specs.Limits.{max_depth}
use Rattle.rdl_tree.specs.Part.{has_part, part_of, with_part_at}
use Rattle.rdl_tree.specs.declared.description.Item.{Item}
use Rattle.rdl_tree.specs.declared.part.Part.{Part}
use Rattle.rdl_tree.specs.declared.patch.Patch.{Patch}
use Rattle.rdl_tree.specs.declared.patch.Patch.TheVariants.{Insert, Delete, Shift, Exchange}

-- the address of the item
abbrev pub address_of : Patch → List ℕ
address_of (Insert at x) = at
address_of (Delete at) = at
address_of (Shift at to) = at
address_of (Exchange at part) = at

-- ---- What patches make of a description.

abbrev pub patched : Patch → Items → Items
patched (Insert at x) t = map_body (holder_of at) (insert_item (number_of at) x) t
patched (Delete at) t = map_body (holder_of at) (remove_item (number_of at)) t
patched (Shift at to) t = map_body (holder_of at) (shift_item (number_of at) to) t
patched (Exchange at part) t = map_body (holder_of at) (with_part_at (number_of at) part) t

-- from the first to the last
abbrev pub image : List Patch → Items → Items
image [] t = t
image (p ∷ ps) t = image ps (patched p t)

-- ---- Where they fit.

-- how many items the body has, if it is there
abbrev pub length_of : Option Items → Option ℕ
length_of None = None
length_of (Some b) = Some (length (list_of b))

-- the number is at most the body's length
abbrev pub has_place : ℕ → Option ℕ → Bool
has_place number None = false
has_place number (Some n) = nat_le number n

-- the number is one of the body's items
abbrev pub has_item : ℕ → Option ℕ → Bool
has_item number None = false
has_item number (Some n) = nat_lt number n

abbrev pub has_part_of : Part → Option Item → Bool
has_part_of part None = false
has_part_of part (Some x) = has_part part x

-- the item stands in a body, and its innermost body is at level 16 at most
abbrev pub is_level : List ℕ → Item → Bool
is_level at x = nat_le 1 (length at) && nat_le (length at + depth (add x no_items)) (max_depth + 1)

abbrev pub fits : Patch → Items → Bool
fits (Insert at x) t = is_level at x && has_place (number_of at) (length_of (body_at (holder_of at) t))
fits (Delete at) t = is_some (item_at at t)
fits (Shift at to) t = is_some (item_at at t) && has_item to (length_of (body_at (holder_of at) t))
fits (Exchange at part) t = has_part_of part (item_at at t)

-- each fits where those before it led
abbrev pub AllFit : List Patch → Items → Type 0
AllFit [] t = Unit {0}
AllFit (p ∷ ps) t = IsTrue (fits p t) × AllFit ps (patched p t)

-- ---- What takes them back.

-- the patch that puts this item in, if there is one
abbrev pub insert_again : List ℕ → Option Item → List Patch
insert_again at None = []
insert_again at (Some x) = Insert at x ∷ []

abbrev pub exchange_again : List ℕ → Part → Option Item → List Patch
exchange_again at part None = []
exchange_again at part (Some x) = Exchange at (part_of part x) ∷ []

-- one patch, where this one fits
abbrev pub inverse : Patch → Items → List Patch
inverse (Insert at x) t = Delete at ∷ []
inverse (Delete at) t = insert_again at (item_at at t)
inverse (Shift at to) t = Shift (holder_of at ++ to ∷ []) (number_of at) ∷ []
inverse (Exchange at part) t = exchange_again at part (item_at at t)

-- the last one's first
abbrev pub inverses : List Patch → Items → List Patch
inverses [] t = []
inverses (p ∷ ps) t = inverses ps (patched p t) ++ inverse p t
