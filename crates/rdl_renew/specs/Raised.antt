-- What the changes of a body mean for its items: the alert that they raise before its first item.
-- own: SystemRDL 2.0 has no edits.
use Rattle.std.specs.Prelude.{◌≡◌, ℕ, ◌^◌, ◌<◌, ◌&&◌, not, Bool, true, false, if◌then◌else◌, List, [], ◌∷◌, Option, Some, None}
use Rattle.rdl_tree.specs.Items.{Items}
use Rattle.rdl_tree.specs.View as tree
use Rattle.rdl_tree.specs.declared.description.Component.{Component}
use Rattle.rdl_tree.specs.declared.description.Item.{Item}
use Rattle.rdl_tree.specs.declared.description.Item.TheVariants.{Define, Instance, Own, Default, Dynamic}
use Rattle.rdl_marks.specs.Describes.{Describes, IsItem, restored, times}
use Rattle.rdl_marks.specs.InOrder.{moved_times}
use Rattle.rdl_marks.specs.Marks.{Firsts, Marks}
use Rattle.rdl_marks.specs.View.{Trace, new_item, old_item, list_of}
use Rattle.rdl_marks.specs.Was.{trace_of}
use Rattle.rdl_seen.specs.declared.alert.Alert.{Alert}
use Rattle.rdl_seen.specs.Alert.{no_alert, with_alert, with_properties_of, with_types, AgreeBut}
use Rattle.rdl_seen.specs.Layouts.{Laying}
use Rattle.rdl_seen.specs.Meaning.{around_before}
use Rattle.rdl_seen.specs.Names.{meet, class_of, names_of}
use Rattle.rdl_seen.specs.Node.{Around}
use Rattle.rdl_seen.specs.Passing.{AreSeenBut, Tells}
use Rattle.rdl_seen.specs.PropertySet.{set_named}
use Rattle.rdl_renew.specs.Onward.{DiffersNoMoreBehind}
use Rattle.rdl_renew.specs.SideBySide.{TellsOfAll}

-- it tells of what an item brings: its definition, or its default
abbrev pub told_of : Item → Alert
told_of (Define n c) = with_types (names_of (class_of n)) no_alert
told_of (Instance s of) = no_alert
told_of (Own p v) = no_alert
told_of (Default p v) = with_properties_of (set_named p) no_alert
told_of (Dynamic t p v) = no_alert

abbrev pub is_absent : {X : Type 0} → Option X → Bool
is_absent None = true
is_absent (Some x) = false

-- an old item wasn't moved, and neither the name of its definition nor its value was set
abbrev pub brings_the_same : Firsts → Bool
brings_the_same f = not f.is_moved && is_absent f.defined && is_absent f.value

-- what an item raises: a new one what it brings, an old one that brings something else what it brought and what it brings
abbrev pub item_raises : Trace → Item → Alert
item_raises new_item x = told_of x
item_raises (old_item number firsts inside) x = if brings_the_same firsts then no_alert else with_alert (told_of (restored firsts x)) (told_of x)

-- what an item that is gone raises: what it brought at first
abbrev pub gone_raises : Trace → Item → Alert
gone_raises new_item x = told_of x
gone_raises (old_item number firsts inside) x = told_of (restored firsts x)

-- what items raise together, as far as something is told of them one by one
abbrev pub all_raise : (Trace → Item → Alert) → List Trace → List Item → Alert
all_raise f [] xs = no_alert
all_raise f (e ∷ es) [] = no_alert
all_raise f (e ∷ es) (x ∷ xs) = with_alert (f e x) (all_raise f es xs)

-- what new items raise together
abbrev pub new_raise : List Item → Alert
new_raise [] = no_alert
new_raise (x ∷ xs) = with_alert (told_of x) (new_raise xs)

-- what the changes raise before the first item
abbrev pub raised : Marks → Items → Alert
raised m now = with_alert (all_raise item_raises (list_of m.traces) (tree.list_of now)) (all_raise gone_raises (list_of m.gone) (tree.list_of m.items))

-- ---- What it tells of.

-- the first alert tells of all that the second one tells of
pub record HasAll (x y : Alert) : Type 0 where
  pub properties : (k : ℕ) → meet y.properties.bits (2 ^ k) ≡ true → meet x.properties.bits (2 ^ k) ≡ true
  pub types : (k : ℕ) → meet y.types.bits (2 ^ k) ≡ true → meet x.types.bits (2 ^ k) ≡ true
  pub inside : (k : ℕ) → meet y.inside.bits (2 ^ k) ≡ true → meet x.inside.bits (2 ^ k) ≡ true

-- of two alerts together each is a part
abbrev pub AlertsAddUp : Type 0
AlertsAddUp = (x y : Alert) → HasAll (with_alert x y) x × HasAll (with_alert x y) y

-- who has all of an alert has all that this one has
abbrev pub HasAllOfIt : Type 0
HasAllOfIt = (x y z : Alert) → HasAll x y → HasAll y z → HasAll x z

-- the alert tells of each item that came, went or was moved, and of each that brings something else than it brought
pub record TellsOfChanges (x : Alert) (m : Marks) (old now : Items) : Type 0 where
  pub gone : (n : ℕ) (y : Item) → IsItem n old y → times n m.gone ≡ 1 → Tells x y
  pub moved_away : (n : ℕ) (y : Item) → IsItem n old y → moved_times n m.traces ≡ 1 → Tells x y
  pub new : (i : ℕ) (y : Item) → IsItem i now y → trace_of m i ≡ Some new_item → Tells x y
  pub moved_here :
      (i n : ℕ) (firsts : Firsts) (inside : Marks) (y : Item) → IsItem i now y → trace_of m i ≡ Some (old_item n firsts inside) → firsts.is_moved ≡ true → Tells x y
  pub changed :
      (i n : ℕ) (firsts : Firsts) (inside : Marks) (z y : Item) → trace_of m i ≡ Some (old_item n firsts inside) → brings_the_same firsts ≡ false → IsItem n old z → IsItem i now y
      → Tells x z × Tells x y

-- who has all that is raised tells of all changes
abbrev pub RaisedTells : Type 0
RaisedTells = (x : Alert) (m : Marks) (old now : Items) → Describes m old now → HasAll x (raised m now) → TellsOfChanges x m old now

-- if item i is a definition that stayed in order under its name, as much of it is seen as isn't told of, where no more differs before it
abbrev pub IsSeenAt : Laying → Alert → Marks → (old now : Items) → (a b : Around) → ℕ → Type 0
IsSeenAt lay x m old now a b i =
    (n : ℕ) (firsts : Firsts) (inside : Marks) (name : List ℕ) (c d : Component) → trace_of m i ≡ Some (old_item n firsts inside) → brings_the_same firsts ≡ true
    → IsItem n old (Define name c) → IsItem i now (Define name d) → AgreeBut x (around_before lay n a old) (around_before lay i b now)
    → AreSeenBut lay x (around_before lay n a old) (around_before lay i b now) name c d

-- then no more differs behind item i
abbrev pub RaisedTellsBehind : Type 0
RaisedTellsBehind =
    (lay : Laying) (x : Alert) (m : Marks) (old now : Items) (a b : Around) (i : ℕ) → Describes m old now → HasAll x (raised m now) → IsSeenAt lay x m old now a b i
    → DiffersNoMoreBehind lay x m old now a b i

-- and it tells of all up to an item, if that holds of each before it
abbrev pub RaisedTellsOfAll : Type 0
RaisedTellsOfAll =
    (lay : Laying) (x : Alert) (m : Marks) (old now : Items) (a b : Around) (to : ℕ) → Describes m old now → HasAll x (raised m now)
    → ((i : ℕ) → i < to → IsSeenAt lay x m old now a b i)
    → TellsOfAll lay x m old now a b to
