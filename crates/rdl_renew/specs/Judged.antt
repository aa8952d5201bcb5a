-- That no item of a body has a fault, told by each item alone.
-- SystemRDL 2.0, clause 5: names, scopes, definitions, instances, property assignments and defaults.
use Rattle.std.specs.Prelude.{◌≡◌, ℕ, ◌≤◌, Bool, true, List, Option, Some}
use Rattle.std.specs.Option.{is_none}
use Rattle.rdl_tree.specs.Items.{Items}
use Rattle.rdl_tree.specs.declared.description.Item.{Item}
use Rattle.rdl_tree.specs.declared.shell.Kind.{Kind}
use Rattle.rdl_tree.specs.declared.shell.Kind.TheVariants.{Field}
use Rattle.rdl_marks.specs.Describes.{Describes, IsItem}
use Rattle.rdl_marks.specs.InOrder.{AreInOrder}
use Rattle.rdl_marks.specs.Marks.{Marks}
use Rattle.rdl_places.specs.Judged.{lone_fault}
use Rattle.rdl_places.specs.Reached.{instances_at}
use Rattle.rdl_places.specs.ScopeLaws.{fault_of_item, IsCleanInside}
use Rattle.rdl_places.specs.Scopes.{Place, around_places}
use Rattle.rdl_seen.specs.declared.alert.Alert.{Alert}
use Rattle.rdl_seen.specs.Alert.{AgreeBut}
use Rattle.rdl_seen.specs.Clean.{are_clean}
use Rattle.rdl_seen.specs.Inside.{Inside, no_instances}
use Rattle.rdl_seen.specs.Layouts.{Laying}
use Rattle.rdl_seen.specs.Meaning.{around_before}
use Rattle.rdl_seen.specs.Node.{Around, body_of}
use Rattle.rdl_seen.specs.OneByOne.{slot_at, instances_before}
use Rattle.rdl_seen.specs.Slots.{Slots}
use Rattle.rdl_renew.specs.Alone.{stands_alone, AllStandAlone}
use Rattle.rdl_renew.specs.Deaf.{is_first_settled}
use Rattle.rdl_renew.specs.SideBySide.{TellsOfAll}
use Rattle.rdl_renew.specs.TakenOver.{IsAsItWas}

-- none of the items of a body that sees this has a fault, nor any inside them; it is that of a component of this kind, or the root's
abbrev pub IsCleanBody : Laying → Around → Option Kind → Items → Type 0
IsCleanBody lay a around body = are_clean lay a around body 0 no_instances body ≡ true

-- item i of the body has none, nor has any inside it
abbrev pub IsCleanItem : Laying → Around → Option Kind → Items → ℕ → Item → Type 0
IsCleanItem lay a around body i y = (is_none (fault_of_item lay a around body i y) ≡ true) × IsCleanInside lay (around_before lay i a body) y

-- an item that sees this, behind these instances of its body, has none by itself, nor has any inside it
abbrev pub IsCleanAlone : Laying → Around → Option Kind → Inside → Item → Type 0
IsCleanAlone lay a around before y = (is_none (lone_fault a around before y) ≡ true) × IsCleanInside lay a y

-- the fault of an item that stands alone is that which it has by itself
abbrev pub LoneFaultsAreTheirs : Type 0
LoneFaultsAreTheirs =
    (lay : Laying) (a : Around) (around : Option Kind) (body : Items) (i : ℕ) (y : Item) → stands_alone body i y ≡ true
    → fault_of_item lay a around body i y ≡ lone_fault (around_before lay i a body) around (instances_before lay i a no_instances body) y

-- so it has none in the body, if it has none by itself
abbrev pub LoneItemsAreClean : Type 0
LoneItemsAreClean =
    (lay : Laying) (a : Around) (around : Option Kind) (body : Items) (i : ℕ) (y : Item) → stands_alone body i y ≡ true
    → IsCleanAlone lay (around_before lay i a body) around (instances_before lay i a no_instances body) y → IsCleanItem lay a around body i y

-- and a body has none whose items stand alone, if each of them has none by itself
abbrev pub LoneBodiesAreClean : Type 0
LoneBodiesAreClean =
    (lay : Laying) (a : Around) (around : Option Kind) (body : Items) → AllStandAlone body
    → ((i : ℕ) (y : Item) → IsItem i body y → IsCleanAlone lay (around_before lay i a body) around (instances_before lay i a no_instances body) y)
    → IsCleanBody lay a around body

-- An item that is as it was, in a body whose items had no fault, still has none, if its slot is settled and the items of the body stand
-- alone. So it is passed over without a look at it.
abbrev pub SettledItemsStayClean : Type 0
SettledItemsStayClean =
    (lay : Laying) (x : Alert) (m : Marks) (old now : Items) (a b : Around) (around : Option Kind) (to : ℕ) → Describes m old now → AreInOrder m → TellsOfAll lay x m old now a b to → AgreeBut x a b
    → IsCleanBody lay a around old → AllStandAlone now
    → (i n : ℕ) (y : Item) (s : Slots) → i ≤ to → IsItem i now y → IsAsItWas m i n → slot_at n (body_of lay a old).slots ≡ Some s → is_first_settled x s ≡ true
    → IsCleanItem lay b around now i y

-- ---- As items are looked at.

-- if it is still known that no item has a fault, it was known before, and this holds
abbrev pub IfStillClean : (before now : Bool) → Type 0 → Type 0
IfStillClean before now P = now ≡ true → (before ≡ true) × P

-- the item at the first of these places has no fault by itself
abbrev pub HasNoneThere : Laying → List Place → Option Kind → Item → Type 0
HasNoneThere lay ps around y = is_none (lone_fault (around_places lay ps) around (instances_at lay ps) y) ≡ true

-- nor does any inside it
abbrev pub HasNoneInside : Laying → List Place → Item → Type 0
HasNoneInside lay ps y = IsCleanInside lay (around_places lay ps) y

-- no item of the body that the item at the first of these places holds has one
abbrev pub IsCleanThere : Laying → List Place → Option Kind → Items → Type 0
IsCleanThere lay ps around body = IsCleanBody lay (around_places lay ps) around body

-- wherever a field stands that has this item, or this body, no fault is in it
abbrev pub IsCleanInField : Item → Type 0
IsCleanInField y = (lay : Laying) (a : Around) (before : Inside) → IsCleanAlone lay a (Some Field) before y

abbrev pub IsCleanField : Items → Type 0
IsCleanField body = (lay : Laying) (a : Around) → IsCleanBody lay a (Some Field) body
