-- A body that is renewed, item by item, over what was kept of it.
-- own: SystemRDL 2.0 has no edits.
use Rattle.std.specs.Prelude.{◌≡◌, ℕ, ◌<◌, Bool, true, false, List, length, Option, Some, None, slice_get}
use Rattle.rdl_tree.specs.Items.{Items}
use Rattle.rdl_tree.specs.declared.description.Component.{Component}
use Rattle.rdl_tree.specs.declared.description.Item.{Item}
use Rattle.rdl_tree.specs.declared.description.Item.TheVariants.{Define, Instance, Own, Default, Dynamic}
use Rattle.rdl_tree.specs.declared.description.Of.{Of}
use Rattle.rdl_tree.specs.declared.description.Of.TheVariants.{Named, Anonymous}
use Rattle.rdl_tree.specs.declared.shell.Kind.{Kind}
use Rattle.rdl_tree.specs.declared.shell.Kind.TheVariants.{Field}
use Rattle.rdl_marks.specs.Describes.{Describes, IsItem}
use Rattle.rdl_marks.specs.InOrder.{AreInOrder}
use Rattle.rdl_marks.specs.Marks.{Firsts, Marks}
use Rattle.rdl_marks.specs.View.{Trace, new_item, old_item}
use Rattle.rdl_marks.specs.Was.{trace_of}
use Rattle.rdl_nodes.specs.declared.node.Slot.{Slot}
use Rattle.rdl_places.specs.Scopes.{Place, around_places, IsScope}
use Rattle.rdl_seen.specs.declared.alert.Alert.{Alert}
use Rattle.rdl_seen.specs.Alert.{AgreeBut}
use Rattle.rdl_seen.specs.Contents.{own_weight}
use Rattle.rdl_seen.specs.Fields.{members}
use Rattle.rdl_seen.specs.Layouts.{Laying}
use Rattle.rdl_seen.specs.Meaning.{around_before}
use Rattle.rdl_seen.specs.Names.{class_of}
use Rattle.rdl_seen.specs.Node.{Around, apart_of, values_of, layouts_of, body_of}
use Rattle.rdl_seen.specs.OneByOne.{slot_at}
use Rattle.rdl_seen.specs.Slots.{Slots, Written, type_slot, part_slot, Core, Node}
use Rattle.rdl_seen.specs.Values.{own_values}
use Rattle.rdl_renew.specs.declared.done.Done.{Done}
use Rattle.rdl_renew.specs.declared.done.Reach.{Reach}
use Rattle.rdl_renew.specs.Deaf.{is_first_settled}
use Rattle.rdl_renew.specs.Fronts.{front_of, fronts}
use Rattle.rdl_renew.specs.Raised.{raised, HasAll}
use Rattle.rdl_renew.specs.SideBySide.{TellsOfAll}
use Rattle.rdl_renew.specs.Stayed.{definition_raises}

-- ---- A body.

-- these slots were kept of a body, which saw this, and of which, as marks tell, this body became
pub record Became (lay : Laying) (saw : Around) (slots : Slots) (marks : Marks) (old now : Items) : Type 0 where
  pub describes : Describes marks old now
  pub in_order : AreInOrder marks
  pub kept : slots ≡ (body_of lay saw old).slots

-- what stands at the first of these places, and saw this before, is reached by this
pub record IsReached (lay : Laying) (places : List Place) (saw : Around) (reach : Reach) : Type 0 where
  pub scope : IsScope lay places
  pub defaults : reach.defaults ≡ (around_places lay places).defaults
  pub agree : AgreeBut reach.alert saw (around_places lay places)

-- a body that is renewed: the places at which it stands, what it was, where that saw this, what became of it, and what was kept of it; it is
-- that of a component of this kind, or the root's
pub record Renewing : Type 0 where
  pub marks : Marks
  pub old : Items
  pub now : Items
  pub saw : Around
  pub places : List Place
  pub slots : Slots
  pub around : Option Kind

-- ---- Its items, from the first one on.

-- so many items are done: these are their slots, and this reaches the next one, before which no more differs than the alert tells of
pub record AreDone (lay : Laying) (r : Renewing) (count : ℕ) (done : Done) : Type 0 where
  pub many : length (fronts done.slots.items) ≡ count
  pub slots : (j : ℕ) → j < count → slice_get (fronts done.slots.items) j ≡ slot_at j (body_of lay (around_places lay r.places) r.now).slots
  pub defaults : done.reach.defaults ≡ (around_before lay count (around_places lay r.places) r.now).defaults
  pub agree : AgreeBut done.reach.alert r.saw (around_places lay r.places)
  pub raised : HasAll done.reach.alert (raised r.marks r.now)
  pub tells : TellsOfAll lay done.reach.alert r.marks r.old r.now r.saw (around_places lay r.places) count

-- then this is the next item, and this is told of it
pub record IsNext (lay : Laying) (r : Renewing) (count : ℕ) (d : Done) (item : Item) (trace : Trace) : Type 0 where
  pub became : Became lay r.saw r.slots r.marks r.old r.now
  pub scope : IsScope lay r.places
  pub done : AreDone lay r count d
  pub there : IsItem count r.now item
  pub told : trace_of r.marks count ≡ Some trace

-- an item that wasn't there before, or was moved
abbrev pub IsMadeAnew : Trace → Type 0
IsMadeAnew new_item = Unit {0}
IsMadeAnew (old_item number firsts inside) = firsts.is_moved ≡ true

-- of the item of this number this slot was kept, and it may be passed over
pub record IsSettledAt (x : Alert) (slots : List Slot) (number : ℕ) (s : Slot) : Type 0 where
  pub there : slice_get slots number ≡ Some s
  pub settled : is_first_settled x (front_of s) ≡ true

-- ---- A component.

-- what an instance is an instance of, if it is written there and no field
abbrev pub part_of_kind : Kind → Component → Option Component
part_of_kind Field c = None
part_of_kind kind c = Some c

abbrev pub part_of : Of → Option Component
part_of (Named t) = None
part_of (Anonymous c) = part_of_kind c.kind c

-- the component of an item, if it is kept by itself
abbrev pub kept_component : Item → Option Component
kept_component (Define n c) = Some c
kept_component (Instance s of) = part_of of
kept_component (Own p v) = None
kept_component (Default p v) = None
kept_component (Dynamic t p v) = None

-- as what it stands there
abbrev pub written_of : Item → Written
written_of (Define n c) = type_slot (class_of n)
written_of (Instance s of) = part_slot
written_of (Own p v) = part_slot
written_of (Default p v) = part_slot
written_of (Dynamic t p v) = part_slot

-- a component of this kind with this body, which saw this, stated that itself, and had these values and these layouts, in which its instances
-- lay apart so
pub record WasLaidOut (lay : Laying) (saw : Around) (k : Kind) (old : Items) (c : Core) : Type 0 where
  pub own : c.own ≡ own_values old
  pub own_weight : c.own_weight ≡ own_weight old
  pub values : c.values ≡ values_of k saw.defaults old
  pub layouts : c.layouts ≡ layouts_of lay k saw.defaults old (body_of lay saw old).slots
  pub apart : c.apart ≡ apart_of k (values_of k saw.defaults old) (layouts_of lay k saw.defaults old (body_of lay saw old).slots) (members saw.defaults old (body_of lay saw old).slots)

-- if this was kept of an item that saw this, and it has a component now, that became of the old one's as marks tell
abbrev pub BecameComponent : Laying → Around → Option Node → Marks → Item → Type 0
BecameComponent lay saw kept inside item =
    (n : Node) (c : Component) → kept ≡ Some n → kept_component item ≡ Some c → (old : Items) × Became lay saw n.slots inside old c.body × WasLaidOut lay saw c.kind old n.core

-- before each item that stayed in order no more differs than an alert tells of
abbrev pub DiffersNoMoreBefore : Laying → Alert → Marks → (old now : Items) → (saw sees : Around) → Type 0
DiffersNoMoreBefore lay x m old now saw sees =
    (i n : ℕ) (firsts : Firsts) (inside : Marks) (y : Item) → IsItem i now y → trace_of m i ≡ Some (old_item n firsts inside) → firsts.is_moved ≡ false
    → AgreeBut x (around_before lay n saw old) (around_before lay i sees now)

-- ---- What it raises.

-- the same is seen of two components, if both are kept
abbrev pub SeesSame : Option Node → Option Node → Type 0
SeesSame before now = (m n : Node) → before ≡ Some m → now ≡ Some n → m.core.seen ≡ n.core.seen

-- what an item raises behind it, of which this was kept before, and this is: what a definition does that stayed
abbrev pub RaisesBehind : Alert → Item → (before now : Option Node) → Type 0
RaisesBehind x (Define name c) before now = (same : Bool) × (x ≡ definition_raises (class_of name) same false) × (same ≡ true → SeesSame before now)
RaisesBehind x (Instance s of) before now = Unit {0}
RaisesBehind x (Own p v) before now = Unit {0}
RaisesBehind x (Default p v) before now = Unit {0}
RaisesBehind x (Dynamic t p v) before now = Unit {0}
