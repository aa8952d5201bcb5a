-- When places are in order, and what is seen of what is found there.
-- own: how what is seen is looked up.
-- SystemRDL 2.0, clause 5, for faults.
use Rattle.std.specs.Prelude.{◌≡◌, ℕ, ◌<◌, true, ◌∷◌, Option, Some, slice_get}
use Rattle.std.specs.Option.{is_none}
use Rattle.rdl_tree.specs.Items.{Items}
use Rattle.rdl_tree.specs.View.{list_of}
use Rattle.rdl_tree.specs.declared.fault.FaultKind.{FaultKind}
use Rattle.rdl_tree.specs.declared.shell.Kind.{Kind}
use Rattle.rdl_tree.specs.declared.description.Item.{Item}
use Rattle.rdl_tree.specs.declared.description.Item.TheVariants.{Define, Instance, Own, Default, Dynamic}
use Rattle.rdl_tree.specs.declared.description.Of.TheVariants.{Named, Anonymous}
use Rattle.rdl_seen.specs.Clean.{are_clean, is_clean}
use Rattle.rdl_seen.specs.Inside.{no_instances}
use Rattle.rdl_seen.specs.Layouts.{Laying}
use Rattle.rdl_seen.specs.Meaning.{around_before}
use Rattle.rdl_seen.specs.Node.{Around, body_of}
use Rattle.rdl_seen.specs.OneByOne.{slot_at, instances_before}
use Rattle.rdl_places.specs.Judged.{item_fault}
use Rattle.rdl_places.specs.Scopes.{Place, HasKept, IsScope, Holding, IsHolding, known_at}
use Rattle.rdl_places.specs.Reached.{place_inside}

-- a place is in order where the slots of the items before it are those of the walked body
abbrev pub SlotsAreKept : Type 0
SlotsAreKept =
    (lay : Laying) (a : Around) (p : Place) → ((i : ℕ) → i < p.number → slot_at i p.slots ≡ slot_at i (body_of lay a p.body).slots) → HasKept lay a p

-- and behind the items of a component that is held
abbrev pub InsideIsScope : Type 0
InsideIsScope = (lay : Laying) (h : Holding) → IsHolding lay h → IsScope lay (place_inside h ∷ h.places)

-- the node of such a component has what is seen of it
abbrev pub NodeHasSeen : Type 0
NodeHasSeen = (lay : Laying) (h : Holding) → IsHolding lay h → h.node.core.seen ≡ (known_at lay h).seen

-- ---- Faults.

-- the fault of item i of a body, by what is seen around the body
abbrev pub fault_of_item : Laying → Around → Option Kind → Items → ℕ → Item → Option FaultKind
fault_of_item lay a around body i x = item_fault (around_before lay i a body) around body i (instances_before lay i a no_instances body) x

-- no item inside an item that stands behind this has a fault
abbrev pub IsCleanInside : Laying → Around → Item → Type 0
IsCleanInside lay a (Define n c) = is_clean lay a c.kind c.body ≡ true
IsCleanInside lay a (Instance s (Named t)) = Unit {0}
IsCleanInside lay a (Instance s (Anonymous c)) = is_clean lay a c.kind c.body ≡ true
IsCleanInside lay a (Own p v) = Unit {0}
IsCleanInside lay a (Default p v) = Unit {0}
IsCleanInside lay a (Dynamic t p v) = Unit {0}

-- each item of a body has no fault, and none inside it has
abbrev pub IsEachClean : Laying → Around → Option Kind → Items → Type 0
IsEachClean lay a around body =
    (i : ℕ) (x : Item) → slice_get (list_of body) i ≡ Some x → (is_none (fault_of_item lay a around body i x) ≡ true) × IsCleanInside lay (around_before lay i a body) x

-- so the body is judged item by item
abbrev pub BodiesAreCleanByItems : Type 0
BodiesAreCleanByItems = (lay : Laying) (a : Around) (around : Option Kind) (body : Items) → IsEachClean lay a around body → are_clean lay a around body 0 no_instances body ≡ true

abbrev pub ItemsAreCleanInBodies : Type 0
ItemsAreCleanInBodies = (lay : Laying) (a : Around) (around : Option Kind) (body : Items) → are_clean lay a around body 0 no_instances body ≡ true → IsEachClean lay a around body
