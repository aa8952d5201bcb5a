-- Where the last items of each name stand among the first items of a body.
-- own: how items are found by their names.
use Rattle.std.specs.Prelude.{◌≡◌, ℕ, zero, suc, ◌*◌, ◌/◌, ◌%◌, ◌^◌, ◌<◌, List, length, Bool, true, false, Option, Some, None, slice_get, nat_eq, if◌then◌else◌}
use Rattle.rdl_tree.specs.Items.{Items}
use Rattle.rdl_tree.specs.View.{list_of}
use Rattle.rdl_tree.specs.declared.description.Item.{Item}
use Rattle.rdl_tree.specs.declared.description.Item.TheVariants.{Define, Instance, Own, Default, Dynamic}
use Rattle.rdl_scope.specs.Front.{front}
use Rattle.rdl_places.specs.declared.lasts.Lasts.{Lasts}
use Rattle.rdl_places.specs.declared.lasts.Link.{Link}
use Rattle.rdl_places.specs.Reached.{count_before}

-- the name of an item that is a definition or an instance
abbrev pub name_of : Option Item → Option (List ℕ)
name_of None = None
name_of (Some (Define n c)) = Some n
name_of (Some (Instance s of)) = Some s.name
name_of (Some (Own p v)) = None
name_of (Some (Default p v)) = None
name_of (Some (Dynamic t p v)) = None

-- the slot of a name, of so many
unfoldable pub slot_of : ℕ → List ℕ → ℕ
slot_of slots name = (((front name * 12540220313503443765) % 2 ^ 64) / 2 ^ 32) % slots

-- the item has a name, and this is its slot
abbrev pub has_slot : ℕ → ℕ → Option (List ℕ) → Bool
has_slot slots slot None = false
has_slot slots slot (Some name) = nat_eq (slot_of slots name) slot

-- one more than the number of the last item of a slot among the first ones of a body, or 0
abbrev pub last_in : ℕ → ℕ → ℕ → Items → ℕ
last_in slots slot zero t = 0
last_in slots slot (suc i) t = if has_slot slots slot (name_of (slice_get (list_of t) i)) then suc i else last_in slots slot i t

-- these are the last items of each slot, of so many, among the items of a body that were gone along, and so many of those are instances
pub record AreLastsOf (t : Items) (many : ℕ) (slots : List ℕ) (links : List Link) (instances : ℕ) : Type 0 where
  pub slots-last : (slot : ℕ) → slot < many → slice_get slots slot ≡ Some (last_in many slot (length links) t)
  pub before : (i : ℕ) (x : Link) → slice_get links i ≡ Some x → x.before ≡ count_before i t
  pub next : (i : ℕ) (x : Link) (slot : ℕ) → slice_get links i ≡ Some x → has_slot many slot (name_of (slice_get (list_of t) i)) ≡ true → x.next ≡ last_in many slot i t
  pub counted : instances ≡ count_before (length links) t

abbrev pub AreLasts : Items → Lasts → Type 0
AreLasts t l = AreLastsOf t (length l.slots.items) l.slots.items l.links.items l.instances
