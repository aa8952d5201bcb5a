-- What is inside a component, all its items taken together.
-- own: SystemRDL 2.0 has no edits. Sums are not capped here, as those of `Seen` are.
use Rattle.std.specs.Prelude.{ℕ, ◌+◌, max, min, ◌^◌, nat_lt, ◌||◌, ◌&&◌, Bool, true, false, Option, Some, None}
use Rattle.rdl_tree.specs.Items.{Items, no_items, plain, holder}
use Rattle.rdl_tree.specs.Weight.{plain_weight, holder_weight}
use Rattle.rdl_seen.specs.declared.names.NameSet.{NameSet}
use Rattle.rdl_seen.specs.declared.property_set.PropertySet.{PropertySet}
use Rattle.rdl_seen.specs.declared.seen.Modes.{Modes}
use Rattle.rdl_seen.specs.declared.seen.Seen.{Seen}
use Rattle.rdl_seen.specs.Inside.{Spots, is_harmless}
use Rattle.rdl_seen.specs.Modes.{all_modes, and_modes}
use Rattle.rdl_seen.specs.Names.{no_names, names_of, with_names}
use Rattle.rdl_seen.specs.PropertySet.{no_properties, with_properties, without_properties}
use Rattle.rdl_seen.specs.Slots.{FieldBody, Slot, default_slot, dynamic_slot, field_slot, named_slot, Written, type_slot, part_slot, Slots, no_slots, slot, written}
use Rattle.rdl_seen.specs.Values.{own_values}

-- the classes of the types to which instances refer, those inside too
abbrev pub slot_asks : Slot → NameSet
slot_asks (named_slot class seen) = names_of class
slot_asks s = no_names

abbrev pub asks : Slots → NameSet
asks no_slots = no_names
asks (slot s rest) = with_names (slot_asks s) (asks rest)
asks (written w c inside rest) = with_names c.seen.asks (asks rest)

-- the property of a default, which those behind it don't take from outside
abbrev pub slot_gives : Slot → PropertySet
slot_gives (default_slot p) = p
slot_gives s = no_properties

-- the properties whose defaults reach the components from outside and matter to them
abbrev pub takes : Slots → PropertySet
takes no_slots = no_properties
takes (slot s rest) = without_properties (takes rest) (slot_gives s)
takes (written w c inside rest) = with_properties c.seen.takes (takes rest)

-- a dynamic assignment stands among them or inside
abbrev pub slot_assigns : Slot → Bool
slot_assigns (dynamic_slot v) = true
slot_assigns s = false

abbrev pub is_assigned : Slots → Bool
is_assigned no_slots = false
is_assigned (slot s rest) = slot_assigns s || is_assigned rest
is_assigned (written w c inside rest) = c.seen.is_assigned || is_assigned rest

-- no dynamic assignment among them can give a row a fault
abbrev pub slot_harmless : Spots → Slot → Bool
slot_harmless spots (dynamic_slot v) = is_harmless spots v
slot_harmless spots s = true

abbrev pub are_harmless : Spots → Slots → Bool
are_harmless spots no_slots = true
are_harmless spots (slot s rest) = slot_harmless spots s && are_harmless spots rest
are_harmless spots (written w c inside rest) = are_harmless spots rest

-- the names of the longest path, how deep bodies nest, the rows, whether there is an instance, the items inside and their weight, whether
-- a register file or an address map without instances is inside, and the modes in which all instances are sound
pub record Contents : Type 0 where
  pub levels : ℕ
  pub depth : ℕ
  pub rows : ℕ
  pub has_instances : Bool
  pub count : ℕ
  pub weight : ℕ
  pub has_empty : Bool
  pub sound : Modes

abbrev pub no_contents : Contents
no_contents = record { levels = 0; depth = 0; rows = 0; has_instances = false; count = 0; weight = 0; has_empty = false; sound = all_modes true }

abbrev pub with_field : FieldBody → Contents → Contents
with_field f c =
    record c {
      levels = max 1 c.levels;
      depth = max 1 c.depth;
      rows = 1 + c.rows;
      has_instances = true;
      count = f.count + c.count;
      weight = f.weight + c.weight;
    }

abbrev pub with_written : Seen → Contents → Contents
with_written s c = record c { depth = max (s.depth + 1) c.depth; count = s.count + c.count; weight = s.weight + c.weight }

abbrev pub with_instance : Seen → Contents → Contents
with_instance s c =
    record c {
      levels = max (s.levels + 1) c.levels;
      rows = s.rows + 1 + c.rows;
      has_instances = true;
      has_empty = s.has_empty || s.is_empty || c.has_empty;
      sound = and_modes s.sound c.sound;
    }

abbrev pub with_named : Option Seen → Contents → Contents
with_named None c = c
with_named (Some s) c = with_instance s c

abbrev pub with_slot : Slot → Contents → Contents
with_slot (field_slot f) c = with_field f c
with_slot (named_slot class seen) c = with_named seen c
with_slot s c = c

abbrev pub with_component : Written → Seen → Contents → Contents
with_component (type_slot class) s c = with_written s c
with_component part_slot s c = with_written s (with_instance s c)

abbrev pub contents : Slots → Contents
contents no_slots = no_contents
contents (slot s rest) = with_slot s (contents rest)
contents (written w c inside rest) = with_component w c.seen (contents rest)

-- how many items a body has, those inside not counted
abbrev pub item_count : Items → ℕ
item_count no_items = 0
item_count (plain p rest) = 1 + item_count rest
item_count (holder h body rest) = 1 + item_count rest

-- the weight of some items, but for what is inside them
abbrev pub items_weight : Items → ℕ
items_weight no_items = 0
items_weight (plain p rest) = plain_weight p + items_weight rest
items_weight (holder h body rest) = holder_weight h + items_weight rest

abbrev pub own_weight : Items → ℕ
own_weight body = min (items_weight body) (2 ^ 31)

-- the body of a field that is written where it is instantiated
abbrev pub field_of : Items → FieldBody
field_of body =
    let own = own_values body in
    record { width = own.fieldwidth; access = own.sw; reset = own.reset; count = min (item_count body) (2 ^ 30); weight = own_weight body }

-- bodies nest more than 16 deep, or there are too many items, or they weigh too much
abbrev pub is_large : Slots → Items → Bool
is_large s body =
    let c = contents s in
    nat_lt 16 c.depth || nat_lt 65536 (c.count + min (item_count body) (2 ^ 30)) || nat_lt 8388608 (c.weight + own_weight body)
