-- How the items of a body that is renewed are like what they were.
-- own: SystemRDL 2.0 has no edits.
use Rattle.std.specs.Prelude.{◌≡◌, ℕ, ◌<◌, ◌∷◌, ◌++◌, [], true, length, Some, slice_get}
use Rattle.rdl_tree.specs.Items.{Items, no_items, plain, holder}
use Rattle.rdl_tree.specs.View as tree
use Rattle.rdl_marks.specs.Describes.{Describes}
use Rattle.rdl_marks.specs.Marks.{Marks, no_firsts}
use Rattle.rdl_marks.specs.View.{Trace, old_item}
use Rattle.rdl_marks.specs.Was.{trace_of}
use Rattle.rdl_nodes.specs.Parts.{of_item}
use Rattle.rdl_nodes.specs.SameInside.{AddsSame}
use Rattle.rdl_nodes.specs.View.{slots_of}
use Rattle.rdl_seen.specs.Fields.{Of}
use Rattle.rdl_seen.specs.OneByOne.{slot_at}
use Rattle.rdl_seen.specs.Slots.{Slots}
use Rattle.rdl_renew.specs.declared.done.Done.{Done}
use Rattle.rdl_renew.specs.AlikeSlots.{all_alike}
use Rattle.rdl_renew.specs.Fronts.{fronts}

-- an item is the old one of this number but for what is inside it
abbrev pub IsInPlace : ℕ → Trace → Type 0
IsInPlace number e = (inside : Marks) × (e ≡ old_item number no_firsts inside)

-- so are as many of the first items
abbrev pub AreInPlace : Marks → ℕ → Type 0
AreInPlace m count = (j : ℕ) → j < count → (inside : Marks) × (trace_of m j ≡ Some (old_item j no_firsts inside))

-- the items of a body but for what is inside them
abbrev pub bare_items : Items → Items
bare_items no_items = no_items
bare_items (plain p rest) = plain p (bare_items rest)
bare_items (holder h body rest) = holder h no_items (bare_items rest)

-- if each is in place, and there are as many, they are the same
abbrev pub InPlaceAreBare : Type 0
InPlaceAreBare =
    (m : Marks) (old now : Items) → Describes m old now → AreInPlace m (length (tree.list_of now)) → length (tree.list_of old) ≡ length (tree.list_of now) → bare_items old ≡ bare_items now

-- the items of this number add the same to what is inside, but for sums
abbrev pub AddSameAt : ℕ → Slots → Slots → Type 0
AddSameAt j s t = (f g : Slots) → slot_at j s ≡ Some f → slot_at j t ≡ Some g → AddsSame f g

-- so do as many of the first ones
abbrev pub AddSame : ℕ → Slots → Slots → Type 0
AddSame count s t = (j : ℕ) → j < count → AddSameAt j s t

-- ---- Items that are done.

-- the second ones are the first ones and one more
abbrev pub IsOneMore : Done → Done → Type 0
IsOneMore d e = (f : Slots) × (fronts e.slots.items ≡ fronts d.slots.items ++ f ∷ [])

-- if it is said that they add the same to what is inside as these, they do
abbrev pub AddAsSaid : Slots → Done → Type 0
AddAsSaid before d = d.add_same ≡ true → AddSame (length d.slots.items) before (slots_of d.slots.items)

-- the second ones are one more than the first ones, and if it is said that they add the same as these, the first ones and that one do
pub record AddsAsSaid (before : Slots) (d e : Done) : Type 0 where
  pub more : IsOneMore d e
  pub same : e.add_same ≡ true → (d.add_same ≡ true) × AddSameAt (length d.slots.items) before (slots_of e.slots.items)

-- the likeness of the second ones, which are one more, is told as that of the first ones
pub record IsLikeAs (d e : Done) : Type 0 where
  pub in_place : e.are_in_place ≡ d.are_in_place
  pub add_same : e.add_same ≡ d.add_same
  pub more : IsOneMore d e
  pub alike : e.are_alike ≡ d.are_alike

-- the component of the item by which the second ones are more than the first ones
abbrev pub of_last : Done → Done → Of
of_last d e = of_item (slice_get e.slots.items (length d.slots.items))

-- what is told of the likeness of all items of a body, of which that was kept, holds
pub record IsLike (m : Marks) (before : Slots) (body : Items) (d : Done) : Type 0 where
  pub in_place : d.are_in_place ≡ true → AreInPlace m (length (tree.list_of body))
  pub alike : d.are_alike ≡ all_alike true m before (slots_of d.slots.items) 0 (tree.list_of body)
