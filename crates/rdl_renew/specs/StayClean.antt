-- The items of a body that stayed as they were, and had no fault, still have none.
-- own: SystemRDL 2.0 has no edits.
use Rattle.std.specs.Prelude.{◌≡◌, ℕ, ◌<◌, ◌≤◌, true, false, Option, ◌⊎◌}
use Rattle.std.specs.Option.{is_none}
use Rattle.rdl_tree.specs.Items.{Items}
use Rattle.rdl_tree.specs.declared.description.Item.{Item}
use Rattle.rdl_tree.specs.declared.description.Item.TheVariants.{Define, Instance, Own, Default, Dynamic}
use Rattle.rdl_tree.specs.declared.shell.Kind.{Kind}
use Rattle.rdl_marks.specs.Describes.{Describes, IsItem}
use Rattle.rdl_marks.specs.InOrder.{AreInOrder}
use Rattle.rdl_marks.specs.Marks.{Marks}
use Rattle.rdl_seen.specs.declared.alert.Alert.{Alert}
use Rattle.rdl_seen.specs.Alert.{AgreeBut}
use Rattle.rdl_seen.specs.Clean.{are_clean, kind_in}
use Rattle.rdl_seen.specs.Inside.{Inside, no_instances}
use Rattle.rdl_seen.specs.Layouts.{Laying}
use Rattle.rdl_seen.specs.Meaning.{around_before}
use Rattle.rdl_seen.specs.Node.{Around}
use Rattle.rdl_seen.specs.OneByOne.{instances_before, IsDeaf}
use Rattle.rdl_renew.specs.Alone.{clashes}
use Rattle.rdl_places.specs.ScopeLaws.{fault_of_item, IsCleanInside}
use Rattle.rdl_renew.specs.SideBySide.{TellsOfAll}
use Rattle.rdl_renew.specs.TakenOver.{IsAsItWas}

-- a target of the item leads to a component of the same kind as before
abbrev pub LeadsToSameKind : Inside → Inside → Item → Type 0
LeadsToSameKind m n (Define name c) = Unit {0}
LeadsToSameKind m n (Instance s of) = Unit {0}
LeadsToSameKind m n (Own p v) = Unit {0}
LeadsToSameKind m n (Default p v) = Unit {0}
LeadsToSameKind m n (Dynamic t p v) = kind_in t m ≡ kind_in t n

-- An item that is as it was, in a body whose items had no fault, still has none, if it listens to nothing that the alert tells of and
-- clashes with none before it but those that are as they were.
abbrev pub CleanItemsStayClean : Type 0
CleanItemsStayClean =
    (lay : Laying) (x : Alert) (m : Marks) (old now : Items) (a b : Around) (around : Option Kind) (to : ℕ) → Describes m old now → AreInOrder m → TellsOfAll lay x m old now a b to → AgreeBut x a b
    → are_clean lay a around old 0 no_instances old ≡ true
    → (i n : ℕ) (y : Item) → i ≤ to → IsItem i now y → IsAsItWas m i n
    → IsDeaf lay x (around_before lay n a old) (instances_before lay n a no_instances old) (instances_before lay i b no_instances now) y
    → LeadsToSameKind (instances_before lay n a no_instances old) (instances_before lay i b no_instances now) y
    → ((j : ℕ) (z : Item) → j < i → IsItem j now z → ((k : ℕ) × IsAsItWas m j k) ⊎ (clashes y z ≡ false))
    → (is_none (fault_of_item lay b around now i y) ≡ true) × IsCleanInside lay (around_before lay i b now) y
