-- Whether the instances of a body take the same of layouts as those of what it was, told by what is kept of both.
-- own: SystemRDL 2.0 has no edits.
use Rattle.std.specs.Prelude.{ℕ, zero, suc, ◌==◌, ◌&&◌, ◌||◌, not, Bool, true, false, List, [], ◌∷◌, bytes_eq, Option, Some, None, unwrap_or}
use Rattle.std.specs.Option.{option_eq, is_some}
use Rattle.rdl_tree.specs.Items.{Items}
use Rattle.rdl_tree.specs.View as tree
use Rattle.rdl_tree.specs.declared.description.Item.{Item}
use Rattle.rdl_tree.specs.declared.description.Item.TheVariants.{Define, Instance, Own, Default, Dynamic}
use Rattle.rdl_tree.specs.declared.property.Property.TheVariants.{Fieldwidth}
use Rattle.rdl_tree.specs.declared.shell.Shell.{Shell}
use Rattle.rdl_marks.specs.Marks.{Firsts, Marks}
use Rattle.rdl_marks.specs.View.{Trace, new_item, old_item}
use Rattle.rdl_marks.specs.Was.{trace_of}
use Rattle.rdl_nodes.specs.Placed.{same_stated}
use Rattle.rdl_seen.specs.declared.alert.Alert.{Alert}
use Rattle.rdl_seen.specs.declared.seen.ByMode.{ByMode}
use Rattle.rdl_seen.specs.declared.seen.Seen.{Seen}
use Rattle.rdl_seen.specs.Fields.{Of, of_field, of_seen, of_none, first_of, rest_of, says_bits}
use Rattle.rdl_seen.specs.PropertySet.{has_property}
use Rattle.rdl_seen.specs.Slots.{FieldBody, Slots}

-- an alert tells of the default width of fields
abbrev pub tells_of_width : Alert → Bool
tells_of_width x = has_property x.properties Fieldwidth

-- ---- An instance.

-- what is kept of the item with this number, as far as layouts take of it
abbrev pub of_at : ℕ → Slots → Of
of_at zero s = first_of s
of_at (suc n) s = of_at n (rest_of s)

-- two sizes are the same under each mode
abbrev pub same_by_mode : ByMode → ByMode → Bool
same_by_mode a b = (a.compact == b.compact) && (a.regalign == b.regalign) && (a.fullalign == b.fullalign)

-- two components are as large, under each mode
abbrev pub is_large_as : (before now : Seen) → Bool
is_large_as before now = same_by_mode before.size now.size && same_by_mode before.widest now.widest

-- a field is as wide: where neither its instance nor its body says it, the default width has to be the same
abbrev pub is_wide_as : (is_width_same : Bool) → Shell → (before now : FieldBody) → Bool
is_wide_as w s before now = says_bits s || (same_stated before.width now.width && (w || is_some now.width))

-- layouts take the same of an instance of the second component as of the first one
abbrev pub takes_same : (is_width_same : Bool) → Shell → (before now : Of) → Bool
takes_same w s (of_field f) (of_field g) = is_wide_as w s f g
takes_same w s (of_seen a) (of_seen b) = is_large_as a b
takes_same w s of_none of_none = true
takes_same w s before now = false

-- the same bits are said, or none
abbrev pub same_range : Option (ℕ × ℕ) → Option (ℕ × ℕ) → Bool
same_range r s = option_eq (λ p q. (p.0 == q.0) && (p.1 == q.1)) r s

-- two instances say the same of their place; their names and resets may differ
abbrev pub says_same : Shell → Shell → Bool
says_same s u =
    bytes_eq s.dims u.dims && same_range s.range u.range && same_stated s.address u.address && same_stated s.stride u.stride && same_stated s.align u.align

-- ---- An item.

-- an item is an instance; so is one of some items
abbrev pub is_instance : Item → Bool
is_instance (Define n c) = false
is_instance (Instance s of) = true
is_instance (Own p v) = false
is_instance (Default p v) = false
is_instance (Dynamic t p v) = false

abbrev pub has_instance : List Item → Bool
has_instance [] = false
has_instance (x ∷ xs) = is_instance x || has_instance xs

-- an instance that was there before wasn't moved, and says the same as what stood first in its place
abbrev pub stays_there : Firsts → Shell → Bool
stays_there f s = not f.is_moved && says_same (unwrap_or f.shell s) s

-- by what is told of an item, it is no instance, or it stayed in order, and layouts take the same of it
abbrev pub is_alike : (is_width_same : Bool) → (before : Slots) → (now : Of) → Trace → Item → Bool
is_alike w before now new_item y = not (is_instance y)
is_alike w before now (old_item number firsts inside) (Instance s of) = stays_there firsts s && takes_same w s (of_at number before) now
is_alike w before now (old_item number firsts inside) y = true

-- none is told of only where marks don't describe the body
abbrev pub is_told_alike : (is_width_same : Bool) → (before : Slots) → (now : Of) → Option Trace → Item → Bool
is_told_alike w before now None y = false
is_told_alike w before now (Some e) y = is_alike w before now e y

-- ---- A body.

-- so it is of each of these items, the first of which has number n
abbrev pub all_alike : (is_width_same : Bool) → Marks → (before now : Slots) → ℕ → List Item → Bool
all_alike w m before now n [] = true
all_alike w m before now n (y ∷ ys) = is_told_alike w before (of_at n now) (trace_of m n) y && all_alike w m before now (suc n) ys

-- and no instance is gone
abbrev pub are_alike : (is_width_same : Bool) → Marks → (before now : Slots) → Items → Bool
are_alike w m before now body = not (has_instance (tree.list_of m.items)) && all_alike w m before now 0 (tree.list_of body)
