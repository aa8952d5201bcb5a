-- The instances of a body, item by item.
-- own: how the code goes along a body and its slots.
use Rattle.std.specs.Prelude.{List, [], ◌∷◌, Option, Some, None}
use Rattle.rdl_tree.specs.Items.{Items}
use Rattle.rdl_tree.specs.declared.description.Item.{Item}
use Rattle.rdl_tree.specs.declared.description.Item.TheVariants.{Define, Instance, Own, Default, Dynamic}
use Rattle.rdl_seen.specs.declared.property_set.PropertySet.{PropertySet}
use Rattle.rdl_seen.specs.declared.values.Values.{Values}
use Rattle.rdl_seen.specs.Fields as fields
use Rattle.rdl_seen.specs.Fields.{each, instance_takes}
use Rattle.rdl_seen.specs.PropertySet.{set_named, with_properties, without_properties}
use Rattle.rdl_seen.specs.Slots.{Slots, no_slots}
use Rattle.rdl_nodes.specs.declared.node.Slot.{Slot}
use Rattle.rdl_nodes.specs.Part.{Part, part_of}
use Rattle.rdl_nodes.specs.View.{add}

-- the component of an item, by its slot, if there is one
abbrev pub of_item : Option Slot → fields.Of
of_item None = fields.of_none
of_item (Some x) = fields.first_of (add x no_slots)

-- the instances of a body, under the defaults that reach it
abbrev pub parts_of : Values → Items → Slots → List Part
parts_of v t s = each part_of v t s

-- an item, if it is an instance
abbrev pub item_parts : Values → Item → fields.Of → List Part
item_parts v (Define n c) o = []
item_parts v (Instance s of) o = part_of v s o ∷ []
item_parts v (Own p x) o = []
item_parts v (Default p x) o = []
item_parts v (Dynamic t p x) o = []

-- which defaults the fields of a body take that has one more item before these, by what the fields of these take
abbrev pub before_item : Item → fields.Of → PropertySet → PropertySet
before_item (Define n c) o takes = takes
before_item (Instance s of) o takes = with_properties (instance_takes s o) takes
before_item (Own p x) o takes = takes
before_item (Default p x) o takes = without_properties takes (set_named p)
before_item (Dynamic t p x) o takes = takes
