-- What stands behind an item, and what of it differs.
-- own: SystemRDL 2.0 has no edits.
use Rattle.std.specs.Prelude.{◌≡◌, ℕ, suc, ◌^◌, ◌≤◌, ◌<◌, Bool, true, false, List, Some, slice_get}
use Rattle.rdl_tree.specs.Items.{Items}
use Rattle.rdl_tree.specs.View.{list_of}
use Rattle.rdl_tree.specs.declared.description.Component.{Component}
use Rattle.rdl_tree.specs.declared.description.Item.{Item}
use Rattle.rdl_tree.specs.declared.description.Item.TheVariants.{Define, Instance, Own, Default, Dynamic}
use Rattle.rdl_seen.specs.declared.alert.Alert.{Alert}
use Rattle.rdl_seen.specs.Agree.{shown}
use Rattle.rdl_seen.specs.Alert.{is_told, AgreeBut}
use Rattle.rdl_seen.specs.Layouts.{Laying}
use Rattle.rdl_seen.specs.Meaning.{around_before}
use Rattle.rdl_seen.specs.Names.{meet, class_of, has_class}
use Rattle.rdl_seen.specs.Node.{Around, with_type, with_default, known}
use Rattle.rdl_seen.specs.PropertySet.{set_named}

-- what stands behind an item
abbrev pub behind_item : Laying → Around → Item → Around
behind_item lay a (Define n c) = with_type n (known lay a c.kind c.body) a
behind_item lay a (Instance s of) = a
behind_item lay a (Own p v) = a
behind_item lay a (Default p v) = with_default p v a
behind_item lay a (Dynamic t p v) = a

-- an alert tells of what an item brings: its definition, or its default
abbrev pub Tells : Alert → Item → Type 0
Tells x (Define n c) = has_class x.types (class_of n) ≡ true
Tells x (Instance s of) = Unit {0}
Tells x (Own p v) = Unit {0}
Tells x (Default p v) = (k : ℕ) → meet (set_named p).bits (2 ^ k) ≡ true → meet x.properties.bits (2 ^ k) ≡ true
Tells x (Dynamic t p v) = Unit {0}

-- of the two definitions of a name as much is seen as isn't told of
abbrev pub AreSeenBut : Laying → Alert → Around → Around → (name : List ℕ) → Component → Component → Type 0
AreSeenBut lay x a b name c d = (deep : Bool) → is_told deep x (class_of name) ≡ false → shown deep (known lay a c.kind c.body) ≡ shown deep (known lay b d.kind d.body)

-- what stands behind item i is what stands behind it and what stood before it
abbrev pub StandsBehindItem : Type 0
StandsBehindItem =
    (lay : Laying) (a : Around) (t : Items) (i : ℕ) (x : Item) → slice_get (list_of t) i ≡ Some x
    → around_before lay (suc i) a t ≡ behind_item lay (around_before lay i a t) x

-- where an item that is told of came or went, no more differs
abbrev pub ItemsComeAndGo : Type 0
ItemsComeAndGo =
    (lay : Laying) (x : Alert) (a b : Around) (y : Item) → Tells x y → AgreeBut x a b → AgreeBut x a (behind_item lay b y) × AgreeBut x (behind_item lay a y) b

-- nor behind the same item, but for a definition
abbrev pub IsSameBehind : Item → Type 0
IsSameBehind y = (lay : Laying) (x : Alert) (a b : Around) → AgreeBut x a b → AgreeBut x (behind_item lay a y) (behind_item lay b y)

abbrev pub ItemsStay : Type 0
ItemsStay =
    (y : Item)
    → elim y as (λ z. Type 0) [
      | Define n c ↦ (d : Component) (lay : Laying) (x : Alert) (a b : Around) → AreSeenBut lay x a b n c d → AgreeBut x a b → AgreeBut x (behind_item lay a (Define n c)) (behind_item lay b (Define n d))
      | Instance s of ↦ IsSameBehind (Instance s of)
      | Own p v ↦ IsSameBehind (Own p v)
      | Default p v ↦ IsSameBehind (Default p v)
      | Dynamic t p v ↦ IsSameBehind (Dynamic t p v)
    ]

-- nor where all items from number i up to number j are passed over, each of which is told of
abbrev pub ItemsArePassedOver : Type 0
ItemsArePassedOver =
    (lay : Laying) (x : Alert) (a b : Around) (t : Items) (i j : ℕ) → i ≤ j
    → ((k : ℕ) (y : Item) → i ≤ k → k < j → slice_get (list_of t) k ≡ Some y → Tells x y)
    → AgreeBut x (around_before lay i a t) b → AgreeBut x (around_before lay j a t) b
