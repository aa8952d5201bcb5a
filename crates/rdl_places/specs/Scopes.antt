-- What the item at a place sees, told by bodies and slots alone, and what a name finds there.
-- SystemRDL 2.0, clause 5, defining and instantiating components: a definition stands before its use, and an inner one hides an outer one.
-- own: slots.
use Rattle.std.specs.Prelude.{◌≡◌, ℕ, zero, suc, ◌<◌, List, [], ◌∷◌, Option, Some, None, option_map, bytes_eq, slice_get, if◌then◌else◌}
use Rattle.std.specs.Option.{option_or}
use Rattle.rdl_tree.specs.Items.{Items}
use Rattle.rdl_tree.specs.View.{list_of}
use Rattle.rdl_tree.specs.declared.shell.Kind.{Kind}
use Rattle.rdl_tree.specs.declared.description.Component.{Component}
use Rattle.rdl_tree.specs.declared.description.Item.{Item}
use Rattle.rdl_tree.specs.declared.description.Item.TheVariants.{Define, Instance, Own, Default, Dynamic}
use Rattle.rdl_seen.specs.Layouts.{Laying}
use Rattle.rdl_seen.specs.Meaning.{nothing_around, around_before, kept_at}
use Rattle.rdl_seen.specs.Node.{Around, Known, body_of, node, known}
use Rattle.rdl_seen.specs.Slots.{Slots, Node}

-- the place of an item in a body: its number there, and the slots of the items before it
pub record Place : Type 0 where
  pub body : Items
  pub number : ℕ
  pub slots : Slots

-- what the item at the first of these places sees; it stands in the body that the item at the next one holds
abbrev pub around_places : Laying → List Place → Around
around_places lay [] = nothing_around
around_places lay (p ∷ ps) = around_before lay p.number (around_places lay ps) p.body

-- what is kept of the items before a place of a body is in the place's slots
pub record HasKept (lay : Laying) (a : Around) (p : Place) : Type 0 where
  pub kept : (i : ℕ) → i < p.number → kept_at i p.slots ≡ kept_at i (body_of lay a p.body).slots

abbrev pub IsScope : Laying → List Place → Type 0
IsScope lay [] = Unit {0}
IsScope lay (p ∷ ps) = HasKept lay (around_places lay ps) p × IsScope lay ps

-- a component that is written in a body: its kind and its items, what is kept of it, and the places at which its item stands
pub record Holding : Type 0 where
  pub kind : Kind
  pub body : Items
  pub node : Node
  pub places : List Place

pub record IsHolding (lay : Laying) (h : Holding) : Type 0 where
  pub kept : h.node ≡ node lay (around_places lay h.places) h.kind h.body
  pub places : IsScope lay h.places

-- there is none, or it is one
abbrev pub AreHeld : Laying → Option Holding → Type 0
AreHeld lay None = Unit {0}
AreHeld lay (Some h) = IsHolding lay h

-- its node is what is kept of the item at the first of its places
abbrev pub IsKeptAt : List Place → Node → Type 0
IsKeptAt [] n = ⊥
IsKeptAt (p ∷ ps) n = kept_at p.number p.slots ≡ Some n

abbrev pub IsAtPlace : Holding → Type 0
IsAtPlace h = IsKeptAt h.places h.node

-- what is known of it where it stands
abbrev pub known_at : Laying → Holding → Known
known_at lay h = known lay (around_places lay h.places) h.kind h.body

-- ---- Types.

-- the component of an item that is a definition of this name
abbrev pub defined : List ℕ → Item → Option Component
defined name (Define n c) = if bytes_eq n name then Some c else None
defined name (Instance s of) = None
defined name (Own p v) = None
defined name (Default p v) = None
defined name (Dynamic t p v) = None

abbrev pub definition : List ℕ → Option Item → Option Component
definition name None = None
definition name (Some x) = defined name x

-- a component that the item of this number holds, if it is kept by itself
abbrev pub holding_at : ℕ → Place → List Place → Component → Option Holding
holding_at i p ps c = option_map (λ n. record { kind = c.kind; body = c.body; node = n; places = record p { number = i } ∷ ps }) (kept_at i p.slots)

-- the last definition of the name among the first items of a body
abbrev pub last_type : List ℕ → ℕ → Place → List Place → Option Holding
last_type name zero p ps = None
last_type name (suc i) p ps = elim (definition name (slice_get (list_of p.body) i)) [ None ↦ last_type name i p ps | Some c ↦ holding_at i p ps c ]

-- the nearest definition of the name
abbrev pub find_type : List ℕ → List Place → Option Holding
find_type name [] = None
find_type name (p ∷ ps) = option_or (last_type name p.number p ps) (find_type name ps)
