-- Whether what is kept of an item stays, told by that alone.
-- own: SystemRDL 2.0 has no edits.
use Rattle.std.specs.Prelude.{◌≡◌, ℕ, suc, ◌≤◌, ◌&&◌, not, Bool, true, false, Some}
use Rattle.rdl_tree.specs.Items.{Items}
use Rattle.rdl_tree.specs.declared.description.Item.{Item}
use Rattle.rdl_marks.specs.Describes.{Describes, IsItem}
use Rattle.rdl_marks.specs.InOrder.{AreInOrder}
use Rattle.rdl_marks.specs.Marks.{Marks}
use Rattle.rdl_seen.specs.declared.alert.Alert.{Alert}
use Rattle.rdl_seen.specs.Alert.{reaches, reaches_as, AgreeBut}
use Rattle.rdl_seen.specs.Inside.{Inside}
use Rattle.rdl_seen.specs.Layouts.{Laying}
use Rattle.rdl_seen.specs.Meaning.{around_before}
use Rattle.rdl_seen.specs.Names.{has_class}
use Rattle.rdl_seen.specs.Node.{Around, body_of}
use Rattle.rdl_seen.specs.OneByOne.{slot_at, slot_of_item, IsDeaf}
use Rattle.rdl_seen.specs.Slots.{Slot, own_slot, default_slot, dynamic_slot, field_slot, named_slot, Written, type_slot, part_slot, Core, Slots, no_slots, slot, written}
use Rattle.rdl_renew.specs.AlikeSlots.{tells_of_width}
use Rattle.rdl_renew.specs.Onward.{DiffersNoMoreBehind}
use Rattle.rdl_renew.specs.SideBySide.{TellsOfAll}
use Rattle.rdl_renew.specs.TakenOver.{IsAsItWas}

-- an item of which no component is kept listens to nothing of the alert. A dynamic assignment may always: its slot doesn't say to what
abbrev pub is_deaf_slot : Alert → Slot → Bool
is_deaf_slot x own_slot = true
is_deaf_slot x (default_slot p) = true
is_deaf_slot x (dynamic_slot v) = false
is_deaf_slot x (field_slot f) = true
is_deaf_slot x (named_slot class s) = not (has_class x.types class)

-- the first of these items listens to nothing of the alert
abbrev pub is_first_deaf : Alert → Slots → Bool
is_first_deaf x no_slots = false
is_first_deaf x (slot s rest) = is_deaf_slot x s
is_first_deaf x (written w core inside rest) = not (reaches x core.seen)

-- whose slot says so is deaf
abbrev pub SlotsTellDeafness : Type 0
SlotsTellDeafness = (lay : Laying) (x : Alert) (a : Around) (m n : Inside) (y : Item) → is_first_deaf x (slot_of_item lay a m y) ≡ true → IsDeaf lay x a m n y

-- so the slot of an item that is as it was is taken over, if it says so
abbrev pub DeafSlotsAreTakenOver : Type 0
DeafSlotsAreTakenOver =
    (lay : Laying) (x : Alert) (m : Marks) (old now : Items) (a b : Around) (to : ℕ) → Describes m old now → AreInOrder m → TellsOfAll lay x m old now a b to → AgreeBut x a b
    → (i n : ℕ) (y : Item) (s : Slots) → i ≤ to → IsItem i now y → IsAsItWas m i n → slot_at n (body_of lay a old).slots ≡ Some s → is_first_deaf x s ≡ true
    → slot_at i (body_of lay b now).slots ≡ Some s

-- An item of which no component is kept listens to nothing of the alert, and brings nothing: a default may be as it was, and yet it changes
-- what stands behind it.
abbrev pub is_settled_slot : Alert → Slot → Bool
is_settled_slot x own_slot = true
is_settled_slot x (default_slot p) = false
is_settled_slot x (dynamic_slot v) = false
is_settled_slot x (field_slot f) = true
is_settled_slot x (named_slot class s) = not (has_class x.types class)

-- a component that listens to nothing of it; if it is a definition, not even by what targets find inside it
abbrev pub listens_to_nothing : Written → Alert → Core → Bool
listens_to_nothing (type_slot class) x core = not (reaches_as true x core.seen)
listens_to_nothing part_slot x core = not (reaches x core.seen)

-- where it tells of the default width of fields, a component is gone into, whoever takes that
abbrev pub is_settled_component : Written → Alert → Core → Bool
is_settled_component w x core = not (tells_of_width x) && listens_to_nothing w x core

-- the first of these items listens to nothing of the alert, and brings no more of what differs
abbrev pub is_first_settled : Alert → Slots → Bool
is_first_settled x no_slots = false
is_first_settled x (slot s rest) = is_settled_slot x s
is_first_settled x (written w core inside rest) = is_settled_component w x core

-- who is settled is deaf
abbrev pub SettledSlotsAreDeaf : Type 0
SettledSlotsAreDeaf = (x : Alert) (s : Slots) → is_first_settled x s ≡ true → is_first_deaf x s ≡ true

-- Behind an item that is as it was and whose slot is settled no more differs than before it, and the defaults are those before it. So a run
-- of such items is passed over without a look at them.
abbrev pub SettledItemsStay : Type 0
SettledItemsStay =
    (lay : Laying) (x : Alert) (m : Marks) (old now : Items) (a b : Around) → Describes m old now
    → (i n : ℕ) (y : Item) (s : Slots) → IsItem i now y → IsAsItWas m i n → slot_at n (body_of lay a old).slots ≡ Some s → is_first_settled x s ≡ true
    → DiffersNoMoreBehind lay x m old now a b i × ((around_before lay (suc i) b now).defaults ≡ (around_before lay i b now).defaults)
