-- What is kept of an item and of a body, by the places at which they stand.
-- own: how what is kept is looked up.
use Rattle.std.specs.Prelude.{ℕ, List, option_map}
use Rattle.rdl_tree.specs.Items.{Items}
use Rattle.rdl_tree.specs.declared.description.Item.{Item}
use Rattle.rdl_scope.specs.Closed.{lookup}
use Rattle.rdl_places.specs.Reached.{instances_at}
use Rattle.rdl_places.specs.Scopes.{Place, around_places}
use Rattle.rdl_seen.specs.Layouts.{Laying}
use Rattle.rdl_seen.specs.Names.{class_of}
use Rattle.rdl_seen.specs.Node.{Known, body_of}
use Rattle.rdl_seen.specs.OneByOne.{slot_of_item}
use Rattle.rdl_seen.specs.Slots.{Slots, no_slots, slot, named_slot}

-- the slot of an item at the first of these places
abbrev pub slot_there : Laying → List Place → Item → Slots
slot_there lay ps x = slot_of_item lay (around_places lay ps) (instances_at lay ps) x

-- that of an instance of the type of this name
abbrev pub named_there : Laying → List Place → List ℕ → Slots
named_there lay ps name = slot (named_slot (class_of name) (option_map (λ (k : Known). k.seen) (lookup name (around_places lay ps).types))) no_slots

-- the slots of a body that the item at the first of these places holds
abbrev pub slots_there : Laying → List Place → Items → Slots
slots_there lay ps body = (body_of lay (around_places lay ps) body).slots
