-- What is kept of a component and of its items: no address, and no name but in classes.
-- own: SystemRDL 2.0 has no edits.
use Rattle.std.specs.Prelude.{ℕ, Option}
use Rattle.rdl_seen.specs.declared.property_set.PropertySet.{PropertySet}
use Rattle.rdl_seen.specs.declared.seen.Modes.{Modes}
use Rattle.rdl_seen.specs.declared.seen.Seen.{Seen}
use Rattle.rdl_seen.specs.declared.values.Access.{Access}
use Rattle.rdl_seen.specs.declared.values.Values.{Values}
use Rattle.rdl_seen.specs.Inside.{Verdict}
use Rattle.rdl_seen.specs.Layouts.{Layouts}

-- the body of a field that is written where it is instantiated: its width in bits, its access, the bits that its reset needs,
-- its items, and what they weigh
pub record FieldBody : Type 0 where
  pub width : Option ℕ
  pub access : Option Access
  pub reset : Option ℕ
  pub count : ℕ
  pub weight : ℕ

-- an item with no component that is kept by itself: an own assignment, a default, a dynamic assignment, an instance of a field that
-- is written there, and an instance of a type, with what it sees of it, if there is one
pub data Slot : Type 0 where
  own_slot : Slot
  default_slot : PropertySet → Slot
  dynamic_slot : Verdict → Slot
  field_slot : FieldBody → Slot
  named_slot : (class : ℕ) → Option Seen → Slot

-- an item with a component: a definition of a name of this class, and an instance of what is written there
pub data Written : Type 0 where
  type_slot : (class : ℕ) → Written
  part_slot : Written

-- a component but for its items: what is seen of it, what its own assignments state, its values, its layouts, the modes in which its
-- instances lie apart, and what its items weigh but for what is inside them
pub record Core : Type 0 where
  pub seen : Seen
  pub own : Values
  pub values : Values
  pub layouts : Layouts
  pub apart : Modes
  pub own_weight : ℕ

-- the items of a body, in order
pub data Slots : Type 0 where
  no_slots : Slots
  slot : Slot → (rest : Slots) → Slots
  written : Written → Core → (inside : Slots) → (rest : Slots) → Slots

-- what is kept of a component
pub record Node : Type 0 where
  pub core : Core
  pub slots : Slots
