-- The slots of a body one by one, and which of them stay.
-- own: SystemRDL 2.0 has no edits.
use Rattle.std.specs.Prelude.{◌≡◌, ℕ, zero, suc, false, List, Option, Some, None, slice_get}
use Rattle.rdl_tree.specs.Component.{holder_kind}
use Rattle.rdl_tree.specs.Items.{Items, no_items, plain, holder}
use Rattle.rdl_tree.specs.View.{list_of, add}
use Rattle.rdl_tree.specs.declared.description.Component.{Component}
use Rattle.rdl_tree.specs.declared.description.Item.{Item}
use Rattle.rdl_tree.specs.declared.description.Item.TheVariants.{Define, Instance, Own, Default, Dynamic}
use Rattle.rdl_tree.specs.declared.description.Of.TheVariants.{Named, Anonymous}
use Rattle.rdl_tree.specs.declared.shell.Kind.{Kind}
use Rattle.rdl_tree.specs.declared.shell.Kind.TheVariants.{Addrmap, Regfile, Reg, Field}
use Rattle.rdl_seen.specs.declared.alert.Alert.{Alert}
use Rattle.rdl_seen.specs.Alert.{reaches, AgreeBut}
use Rattle.rdl_seen.specs.Inside.{Inside, asked, verdict_of}
use Rattle.rdl_seen.specs.Layouts.{Laying}
use Rattle.rdl_seen.specs.Meaning.{around_before}
use Rattle.rdl_seen.specs.Names.{class_of, has_class}
use Rattle.rdl_seen.specs.Node.{Around, after_plain, after_holder, plain_instances, holder_instances, walked, node, known}
use Rattle.rdl_seen.specs.Passing.{behind_item}
use Rattle.rdl_seen.specs.Slots.{Slots, no_slots, slot, written}

-- the slot of an item by itself, behind these instances, and the instances behind it
abbrev pub slot_of_item : Laying → Around → Inside → Item → Slots
slot_of_item lay a before x = (walked lay a before (add x no_items)).slots

abbrev pub instances_behind : Laying → Around → Inside → Item → Inside
instances_behind lay a before x = (walked lay a before (add x no_items)).instances

-- these slots, and then those
abbrev pub joined : Slots → Slots → Slots
joined no_slots more = more
joined (slot s rest) more = slot s (joined rest more)
joined (written w c inside rest) more = written w c inside (joined rest more)

-- the slot of a number by itself
abbrev pub slot_at : ℕ → Slots → Option Slots
slot_at i no_slots = None
slot_at zero (slot s rest) = Some (slot s no_slots)
slot_at zero (written w c inside rest) = Some (written w c inside no_slots)
slot_at (suc i) (slot s rest) = slot_at i rest
slot_at (suc i) (written w c inside rest) = slot_at i rest

-- the instances before item i of a body, behind these
abbrev pub instances_before : Laying → ℕ → Around → Inside → Items → Inside
instances_before lay zero a before t = before
instances_before lay (suc i) a before no_items = before
instances_before lay (suc i) a before (plain p rest) = instances_before lay i (after_plain p a) (plain_instances a p before) rest
instances_before lay (suc i) a before (holder h body rest) =
    let k = known lay a (holder_kind h) body in instances_before lay i (after_holder h k a) (holder_instances h k before) rest

-- the items of a body are walked one after another
abbrev pub AreWalkedInTurn : Type 0
AreWalkedInTurn =
    (lay : Laying) (a : Around) (before : Inside) (x : Item) (rest : Items)
    → (walked lay a before (add x rest)).slots
    ≡ joined (slot_of_item lay a before x) (walked lay (behind_item lay a x) (instances_behind lay a before x) rest).slots
    × ((walked lay a before (add x rest)).instances ≡ (walked lay (behind_item lay a x) (instances_behind lay a before x) rest).instances)

-- the slot of item i is that of the item, by what stands before it
abbrev pub SlotsAreOfItems : Type 0
SlotsAreOfItems =
    (lay : Laying) (a : Around) (before : Inside) (t : Items) (i : ℕ) (x : Item) → slice_get (list_of t) i ≡ Some x
    → slot_at i (walked lay a before t).slots ≡ Some (slot_of_item lay (around_before lay i a t) (instances_before lay i a before t) x)

-- an item listens to nothing of an alert: of a dynamic assignment, the instances before it are the same to it
abbrev pub IsDeafComponent : Laying → Alert → Around → Component → Type 0
IsDeafComponent lay x a c = reaches x (node lay a c.kind c.body).core.seen ≡ false

abbrev pub IsDeafPart : Kind → Laying → Alert → Around → Component → Type 0
IsDeafPart Field lay x a c = Unit {0}
IsDeafPart kind lay x a c = IsDeafComponent lay x a c

abbrev pub IsDeaf : Laying → Alert → Around → Inside → Inside → Item → Type 0
IsDeaf lay x a m n (Define name c) = IsDeafComponent lay x a c
IsDeaf lay x a m n (Instance s (Named t)) = has_class x.types (class_of t) ≡ false
IsDeaf lay x a m n (Instance s (Anonymous c)) = IsDeafPart c.kind lay x a c
IsDeaf lay x a m n (Own p v) = Unit {0}
IsDeaf lay x a m n (Default p v) = Unit {0}
IsDeaf lay x a m n (Dynamic t p v) = verdict_of (asked p v) t m ≡ verdict_of (asked p v) t n

-- its slot stays
abbrev pub DeafSlotsStay : Type 0
DeafSlotsStay =
    (lay : Laying) (x : Alert) (a b : Around) (m n : Inside) (y : Item) → AgreeBut x a b → IsDeaf lay x a m n y → slot_of_item lay b n y ≡ slot_of_item lay a m y
