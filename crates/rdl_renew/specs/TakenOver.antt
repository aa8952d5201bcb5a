-- What of a body's slots is taken over from what the body was.
-- own: SystemRDL 2.0 has no edits.
use Rattle.std.specs.Prelude.{◌≡◌, ℕ, ◌≤◌, false, List, Option, Some, None}
use Rattle.rdl_tree.specs.Items.{Items}
use Rattle.rdl_tree.specs.declared.description.Item.{Item}
use Rattle.rdl_marks.specs.Describes.{Describes, IsItem}
use Rattle.rdl_marks.specs.InOrder.{AreInOrder}
use Rattle.rdl_marks.specs.Marks.{Firsts, Marks}
use Rattle.rdl_marks.specs.View.{same_item, old_item}
use Rattle.rdl_marks.specs.Was.{trace_of}
use Rattle.rdl_seen.specs.declared.alert.Alert.{Alert}
use Rattle.rdl_seen.specs.Alert.{AgreeBut}
use Rattle.rdl_seen.specs.Inside.{no_instances}
use Rattle.rdl_seen.specs.Layouts.{Laying}
use Rattle.rdl_seen.specs.Meaning.{around_before}
use Rattle.rdl_seen.specs.Node.{Around, body_of}
use Rattle.rdl_seen.specs.OneByOne.{slot_at, instances_before, IsDeaf}
use Rattle.rdl_renew.specs.SideBySide.{TellsOfAll}

-- item i is as item n was, and stands in order
abbrev pub IsAsItWas : Marks → (i n : ℕ) → Type 0
IsAsItWas m i n = trace_of m i ≡ Some (same_item n)

-- no part was exchanged but the type that an instance names
abbrev pub retyped : Option (List ℕ) → Firsts
retyped t = record { shell = None; defined = None; type_name = t; value = None; target = None; is_moved = false }

-- item i is as item n was, but for what is inside it and for the type that it names, and stands in order
abbrev pub IsAsItWasOutside : Marks → (i n : ℕ) → Type 0
IsAsItWasOutside m i n = (inside : Marks) × (t : Option (List ℕ)) × (trace_of m i ≡ Some (old_item n (retyped t) inside))

-- one that is as it was is that item
abbrev pub SameItemsStay : Type 0
SameItemsStay = (m : Marks) (old now : Items) (i n : ℕ) (y : Item) → Describes m old now → IsItem i now y → IsAsItWas m i n → IsItem n old y

-- its slot is the old one, if it listens to nothing that the alert tells of
abbrev pub SlotsAreTakenOver : Type 0
SlotsAreTakenOver =
    (lay : Laying) (x : Alert) (m : Marks) (old now : Items) (a b : Around) (to : ℕ) → Describes m old now → AreInOrder m → TellsOfAll lay x m old now a b to → AgreeBut x a b
    → (i n : ℕ) (y : Item) → i ≤ to → IsItem i now y → IsAsItWas m i n
    → IsDeaf lay x (around_before lay n a old) (instances_before lay n a no_instances old) (instances_before lay i b no_instances now) y
    → slot_at i (body_of lay b now).slots ≡ slot_at n (body_of lay a old).slots
