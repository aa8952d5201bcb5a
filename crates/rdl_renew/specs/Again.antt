-- The component of an item that was changed itself, as it was.
-- own: SystemRDL 2.0 has no edits.
use Rattle.std.specs.Prelude.{◌≡◌, ℕ, false, List, Some, slice_get}
use Rattle.rdl_tree.specs.declared.description.Component.{Component}
use Rattle.rdl_tree.specs.declared.description.Item.{Item}
use Rattle.rdl_marks.specs.Marks.{Marks, no_marks}
use Rattle.rdl_nodes.specs.KeptNode.{slot_node}
use Rattle.rdl_nodes.specs.declared.node.Slot.{Slot}
use Rattle.rdl_seen.specs.declared.alert.Alert.{Alert}
use Rattle.rdl_seen.specs.Alert.{reaches}
use Rattle.rdl_seen.specs.Slots.{Written, written, no_slots, Node}
use Rattle.rdl_renew.specs.AlikeSlots.{tells_of_width}
use Rattle.rdl_renew.specs.Fronts.{front_of}
use Rattle.rdl_renew.specs.Renewing.{kept_component, written_of}

-- the second slot has the component of the first one, as this, and that listens to nothing of the alert
pub record IsSameComponent (w : Written) (x : Alert) (before now : Slot) : Type 0 where
  pub node : Node
  pub kept : slot_node before ≡ Some node
  pub deaf : reaches x node.core.seen ≡ false
  pub front : front_of now ≡ written w node.core node.slots no_slots

-- an item that had this number, in whose body nothing was changed, has this slot: its component is that of the slot that was kept of it
pub record IsHeldAgain (x : Alert) (slots : List Slot) (number : ℕ) (inside : Marks) (y : Item) (s : Slot) : Type 0 where
  pub untouched : inside ≡ no_marks
  pub width : tells_of_width x ≡ false
  pub component : Component
  pub is : kept_component y ≡ Some component
  pub before : Slot
  pub there : slice_get slots number ≡ Some before
  pub same : IsSameComponent (written_of y) x before s
