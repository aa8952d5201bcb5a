-- The items of a body that is renewed have no fault, if none had in what the body was.
-- SystemRDL 2.0, clause 5: names, scopes, definitions, instances, property assignments and defaults.
use Rattle.std.specs.Prelude.{◌≡◌, ℕ, Bool, true, List, Option, Some}
use Rattle.rdl_tree.specs.Items.{Items}
use Rattle.rdl_tree.specs.declared.description.Component.{Component}
use Rattle.rdl_tree.specs.declared.description.Item.{Item}
use Rattle.rdl_tree.specs.declared.shell.Kind.{Kind}
use Rattle.rdl_marks.specs.Describes.{Describes}
use Rattle.rdl_marks.specs.Marks.{Marks}
use Rattle.rdl_places.specs.Scopes.{Place, around_places}
use Rattle.rdl_seen.specs.Layouts.{Laying}
use Rattle.rdl_seen.specs.Node.{Around}
use Rattle.rdl_seen.specs.Slots.{Node}
use Rattle.rdl_renew.specs.Alone.{AllStandAlone}
use Rattle.rdl_renew.specs.Judged.{IsCleanBody, IsCleanItem, IsCleanThere}
use Rattle.rdl_renew.specs.Renewing.{Renewing, Became, kept_component}

-- the items of a body stand alone, if they did in what it was, of which it became this as marks tell
abbrev pub StandAloneStill : Marks → Items → Type 0
StandAloneStill m now = (old : Items) → Describes m old now → AllStandAlone old → AllStandAlone now

-- if no item of a body had a fault that saw this, none has of what it is now, which the item at the first of these places holds
abbrev pub StaysClean : Laying → List Place → Option Kind → (saw : Around) → (old now : Items) → Type 0
StaysClean lay ps around saw old now = IsCleanBody lay saw around old → IsCleanThere lay ps around now

-- No item of a body that is renewed had a fault. Then item n has none now, nor has any inside it, where the items stand alone.
abbrev pub WasClean : Laying → Renewing → Type 0
WasClean lay r = IsCleanBody lay r.saw r.around r.old

abbrev pub IsCleanStill : Laying → Renewing → ℕ → Item → Type 0
IsCleanStill lay r n y = WasClean lay r → AllStandAlone r.now → IsCleanItem lay (around_places lay r.places) r.around r.now n y

-- if this was kept of an item that saw this, and it has a component now, that became of the old one's as marks tell, in which no item had a
-- fault, if that is said
abbrev pub BecameClean : Laying → Around → Option Node → Marks → (was_clean : Bool) → Item → Type 0
BecameClean lay saw kept inside was_clean item =
    (n : Node) (c : Component) → kept ≡ Some n → kept_component item ≡ Some c
    → (old : Items) × Became lay saw n.slots inside old c.body × (was_clean ≡ true → IsCleanBody lay saw (Some c.kind) old)
