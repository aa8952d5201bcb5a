-- What is kept at an address, as the code lends it.
-- own: how the code holds nodes.
use Rattle.std.specs.Prelude.{Option, Some, None}
use Rattle.rdl_nodes.specs.declared.node.Kept.{Kept}
use Rattle.rdl_nodes.specs.declared.node.Slot.{Slot}
use Rattle.rdl_nodes.specs.declared.node.Slot.TheVariants.{Own, Default, Dynamic, Field, Named, Define, Part}
use Rattle.rdl_seen.specs.Slots.{Node}

abbrev pub kept_of : Kept → Node
kept_of k = record { core = record k.node.now.core { seen = k.seen.now }; slots = k.node.now.slots }

-- the node of an item, if that is kept by itself
abbrev pub slot_node : Slot → Option Node
slot_node Own = None
slot_node (Default p) = None
slot_node (Dynamic v) = None
slot_node (Field f) = None
slot_node (Named class s) = None
slot_node (Define class s n) = Some (record { core = record n.value.core { seen = s.value }; slots = n.value.slots })
slot_node (Part n) = Some n.value
