-- What the targets of dynamic assignments find, told by bodies and slots alone.
-- SystemRDL 2.0, clause 5, dynamic assignment: the target names instances, one inside the other.
use Rattle.std.specs.Prelude.{ℕ, zero, suc, ◌+◌, List, [], ◌∷◌, length, Option, Some, None, bytes_eq, slice_get, if◌then◌else◌}
use Rattle.rdl_tree.specs.Items.{Items}
use Rattle.rdl_tree.specs.View.{list_of}
use Rattle.rdl_tree.specs.declared.description.Item.{Item}
use Rattle.rdl_tree.specs.declared.description.Item.TheVariants.{Define, Instance, Own, Default, Dynamic}
use Rattle.rdl_tree.specs.declared.description.Of.{Of}
use Rattle.rdl_tree.specs.declared.description.Of.TheVariants.{Named, Anonymous}
use Rattle.rdl_seen.specs.Inside.{Inside, no_instances, Within, nothing_within, Found}
use Rattle.rdl_seen.specs.Layouts.{Laying}
use Rattle.rdl_seen.specs.OneByOne.{instances_before}
use Rattle.rdl_places.specs.Scopes.{Place, around_places, Holding, AreHeld, known_at, holding_at, find_type}

-- ---- As all of it is seen.

-- the instances that stand before a place in its body
abbrev pub instances_at : Laying → List Place → Inside
instances_at lay [] = no_instances
instances_at lay (p ∷ ps) = instances_before lay p.number (around_places lay ps) no_instances p.body

-- ---- As it is looked up.

-- how many instances the item is
abbrev pub count_of : Option Item → ℕ
count_of None = 0
count_of (Some (Define n c)) = 0
count_of (Some (Instance s of)) = 1
count_of (Some (Own p v)) = 0
count_of (Some (Default p v)) = 0
count_of (Some (Dynamic t p v)) = 0

-- how many instances are among the first items of a body
abbrev pub count_before : ℕ → Items → ℕ
count_before zero t = 0
count_before (suc i) t = count_before i t + count_of (slice_get (list_of t) i)

-- an instance: how many stand before it, and its component, if that is known and no field that is written there
pub record FoundAt : Type 0 where
  pub number : ℕ
  pub holding : Option Holding

-- what the instance of this number is an instance of
abbrev pub component_of : ℕ → Place → List Place → Of → Option Holding
component_of i p ps (Named t) = find_type t (record p { number = i } ∷ ps)
component_of i p ps (Anonymous c) = holding_at i p ps c

-- what an item is an instance of, if it is one of this name
abbrev pub instance_of : List ℕ → Item → Option Of
instance_of name (Define n c) = None
instance_of name (Instance s of) = if bytes_eq s.name name then Some of else None
instance_of name (Own p v) = None
instance_of name (Default p v) = None
instance_of name (Dynamic t p v) = None

abbrev pub instance_named : List ℕ → Option Item → Option Of
instance_named name None = None
instance_named name (Some x) = instance_of name x

-- the last instance of the name among the first items of a body
abbrev pub find_before : List ℕ → ℕ → Place → List Place → Option FoundAt
find_before name zero p ps = None
find_before name (suc i) p ps =
    elim (instance_named name (slice_get (list_of p.body) i)) [
      | None ↦ find_before name i p ps
      | Some of ↦ Some (record { number = count_before i p.body; holding = component_of i p ps of })
    ]

-- behind the items of a component
abbrev pub place_inside : Holding → Place
place_inside h = record { body = h.body; number = length (list_of h.body); slots = h.node.slots }

abbrev pub find_inside : List ℕ → Holding → Option FoundAt
find_inside name h = find_before name (length (list_of h.body)) (place_inside h) h.places

-- ---- What it means.

-- what targets find inside it
abbrev pub within_at : Laying → Option Holding → Within
within_at lay None = nothing_within
within_at lay (Some h) = (known_at lay h).within

abbrev pub found_at : Laying → FoundAt → Found
found_at lay f = record { number = f.number; within = within_at lay f.holding }

abbrev pub IsFoundHeld : Laying → Option FoundAt → Type 0
IsFoundHeld lay None = Unit {0}
IsFoundHeld lay (Some f) = AreHeld lay f.holding
