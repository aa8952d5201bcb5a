-- What is kept of a component: a function of its kind and its body, and of what its body sees around it.
-- own: SystemRDL 2.0 speaks of definitions and scopes, and nothing of edits.
use Rattle.std.specs.Prelude.{ℕ, ◌+◌, ◌-◌, ◌^◌, min, ◌&&◌, ◌||◌, not, Bool, true, false, List, ◌∷◌, Option, Some, None, option_map, unwrap_or}
use Rattle.rdl_tree.specs.Items.{Items, no_items, plain, holder, Plain, named, own, default, dynamic, Holder, define, anonymous}
use Rattle.rdl_tree.specs.Component.{holder_kind}
use Rattle.rdl_tree.specs.declared.shell.Kind.{Kind}
use Rattle.rdl_tree.specs.declared.shell.Kind.TheVariants.{Addrmap, Regfile, Reg, Field}
use Rattle.rdl_tree.specs.declared.value.Value.{Value}
use Rattle.rdl_tree.specs.declared.property.Property.TheVariants.{Sw}
use Rattle.rdl_scope.specs.Closed.{lookup}
use Rattle.rdl_seen.specs.declared.mode.Mode.{Mode}
use Rattle.rdl_seen.specs.declared.mode.Mode.TheVariants.{Regalign}
use Rattle.rdl_seen.specs.declared.property_set.PropertySet.{PropertySet}
use Rattle.rdl_seen.specs.declared.seen.Modes.{Modes}
use Rattle.rdl_seen.specs.declared.seen.Seen.{Seen}
use Rattle.rdl_seen.specs.declared.values.Values.{Values}
use Rattle.rdl_seen.specs.Contents.{Contents, contents, asks, takes, is_assigned, are_harmless, own_weight, item_count, field_of}
use Rattle.rdl_seen.specs.Fields.{members, resets, accesses, field_takes, clash_none, are_fields_sound}
use Rattle.rdl_seen.specs.Inside.{Spots, Inside, no_instances, Within, nothing_within, with_instance, asked, verdict_of}
use Rattle.rdl_seen.specs.Layouts.{Layouts, Member, Laying, sizes, accesses as widest, are_apart, is_apart_under, apart_modes}
use Rattle.rdl_seen.specs.Modes.{all_modes, has_mode, and_modes}
use Rattle.rdl_seen.specs.Names.{class_of}
use Rattle.rdl_seen.specs.PropertySet.{kind_set, set_of, set_named, with_properties, without_properties}
use Rattle.rdl_seen.specs.Slots.{Slot, own_slot, default_slot, dynamic_slot, field_slot, named_slot, type_slot, part_slot, Core, Slots, no_slots, slot, written, Node}
use Rattle.rdl_seen.specs.Values.{put_named, own_values, over, of_kind, stated, access}

-- a type: what is seen of it, and what targets find inside it
pub record Known : Type 0 where
  pub seen : Seen
  pub within : Within

-- what a body sees: the types by name, the nearest first, and the defaults that reach it
pub record Around : Type 0 where
  pub types : List (List ℕ × Known)
  pub defaults : Values

abbrev pub with_type : List ℕ → Known → Around → Around
with_type name k a = record a { types = (name, k) ∷ a.types }

abbrev pub with_default : List ℕ → Value → Around → Around
with_default p x a = record a { defaults = put_named p x a.defaults }

-- no two fields of a register share a bit
abbrev pub is_ordered : Kind → Layouts → Bool
is_ordered Reg l = are_apart l.compact.spans
is_ordered kind l = false

abbrev pub spots_of : Kind → Layouts → Spots
spots_of k l = record { spans = l.compact.spans; is_ordered = is_ordered k l }

-- the mode under which the instances of an address map stand, whatever the one around it is
abbrev pub mode_inside : Values → Mode
mode_inside v = unwrap_or v.addressing Regalign

-- the modes in which its instances lie apart; for fields the register says it
abbrev pub apart_of : Kind → Values → Layouts → List Member → Modes
apart_of Addrmap v l ms = all_modes (is_apart_under l ms (mode_inside v))
apart_of Regfile v l ms = apart_modes l ms
apart_of kind v l ms = all_modes true

-- the modes in which its instances are sound, each by those that are seen of them
abbrev pub sound_inside : Kind → Values → Modes → Modes
sound_inside Addrmap v inside = all_modes (has_mode inside (mode_inside v))
sound_inside kind v inside = inside

-- the modes in which no row below it can have a fault: by its instances, how they lie, its fields, and its dynamic assignments
abbrev pub sound_of : Kind → Modes → Modes → Bool → Bool → Modes
sound_of Field inside apart fields harmless = all_modes true
sound_of Reg inside apart fields harmless = all_modes (fields && harmless)
sound_of kind inside apart fields harmless = and_modes inside (and_modes apart (all_modes harmless))

-- where fields share no bits, it doesn't matter how software accesses them
abbrev pub without_access : Bool → PropertySet → PropertySet
without_access true s = without_properties s (set_of Sw)
without_access false s = s

-- the properties whose defaults reach it from outside and matter: of its kind and not its own, of its fields, and of what is inside
abbrev pub takes_of : Kind → Items → Slots → Bool → PropertySet
takes_of k body s ordered =
    with_properties (without_properties (kind_set k) (stated (own_values body)))
    (with_properties (without_access ordered (field_takes body s)) (takes s))

abbrev pub is_container : Kind → Bool
is_container Addrmap = true
is_container Regfile = true
is_container kind = false

-- what is seen of it, by its contents, its values, its layouts, and the modes in which it is sound
abbrev pub seen_of : Kind → Items → Slots → Contents → Values → Layouts → Modes → Seen
seen_of k body s c v l sound =
    record {
      kind = k;
      levels = min c.levels 16;
      depth = min c.depth 255;
      access = access v;
      reset = v.reset;
      takes = takes_of k body s (is_ordered k l);
      sound = sound;
      is_empty = is_container k && not c.has_instances;
      has_empty = c.has_empty;
      is_ordered = is_ordered k l;
      is_assigned = is_assigned s;
      rows = min c.rows 65536;
      count = min (c.count + min (item_count body) (2 ^ 30)) (2 ^ 32 - 1);
      weight = min (c.weight + own_weight body) (2 ^ 32 - 1);
      widest = widest l;
      size = sizes l;
      asks = asks s;
    }

-- a component with these values, where its layouts and those of its fields that share bits are as said
abbrev pub core_by : Kind → Items → Slots → Values → List Member → Layouts → List (Option ℕ) → Bool → Core
core_by k body s v ms l bits may =
    let c = contents s in
    let apart = apart_of k v l ms in
    let sound = sound_of k (sound_inside k v c.sound) apart (are_fields_sound v l.compact.spans bits may) (are_harmless (spots_of k l) s) in
    record { seen = seen_of k body s c v l sound; own = own_values body; values = v; layouts = l; apart = apart; own_weight = own_weight body }

-- its values: its own assignments, and for the rest the defaults that reach it
abbrev pub values_of : Kind → Values → Items → Values
values_of k defaults body = of_kind k (over (own_values body) defaults)

abbrev pub layouts_of : Laying → Kind → Values → Items → Slots → Layouts
layouts_of lay k defaults body s = lay k (values_of k defaults body) (members defaults body s)

-- no two of its fields share a bit, or those that do may, by how they are accessed
abbrev pub are_shares_allowed : Laying → Kind → Values → Items → Slots → Bool
are_shares_allowed lay k defaults body s =
    is_ordered k (layouts_of lay k defaults body s) || clash_none (layouts_of lay k defaults body s).compact.spans (accesses defaults body s)

-- a component whose items are these, under the defaults that reach it
abbrev pub core_of : Laying → Kind → Values → Items → Slots → Core
core_of lay k defaults body s =
    core_by k body s (values_of k defaults body) (members defaults body s)
    (layouts_of lay k defaults body s) (resets defaults body s) (are_shares_allowed lay k defaults body s)

-- the items of a body, and the instances among them
pub record Walked : Type 0 where
  pub slots : Slots
  pub instances : Inside

abbrev pub known_of : Core → Inside → Known
known_of c instances =
    let spots : Spots = record { spans = c.layouts.compact.spans; is_ordered = c.seen.is_ordered } in
    record { seen = c.seen; within = record { kind = c.seen.kind; spots = spots; inside = instances } }

abbrev pub within_type : Option Known → Within
within_type None = nothing_within
within_type (Some k) = k.within

-- an item without a component, behind these instances of its body; and what stands behind it
abbrev pub plain_slot : Around → Inside → Plain → Slot
plain_slot a before (named s t) = named_slot (class_of t) (option_map (λ (k : Known). k.seen) (lookup t a.types))
plain_slot a before (own p x) = own_slot
plain_slot a before (default p x) = default_slot (set_named p)
plain_slot a before (dynamic t p x) = dynamic_slot (verdict_of (asked p x) t before)

abbrev pub after_plain : Plain → Around → Around
after_plain (named s t) a = a
after_plain (own p x) a = a
after_plain (default p x) a = with_default p x a
after_plain (dynamic t p x) a = a

abbrev pub plain_instances : Around → Plain → Inside → Inside
plain_instances a (named s t) before = with_instance s.name (within_type (lookup t a.types)) before
plain_instances a (own p x) before = before
plain_instances a (default p x) before = before
plain_instances a (dynamic t p x) before = before

-- an item with a component. A field that is written where it is instantiated isn't kept by itself: what it takes of defaults, its
-- register says
abbrev pub holder_slots : Holder → Items → Core → Slots → Slots → Slots
holder_slots (define n k) body c inside rest = written (type_slot (class_of n)) c inside rest
holder_slots (anonymous s Field) body c inside rest = slot (field_slot (field_of body)) rest
holder_slots (anonymous s k) body c inside rest = written part_slot c inside rest

abbrev pub after_holder : Holder → Known → Around → Around
after_holder (define n k) known a = with_type n known a
after_holder (anonymous s k) known a = a

abbrev pub holder_instances : Holder → Known → Inside → Inside
holder_instances (define n k) known before = before
holder_instances (anonymous s Field) known before = with_instance s.name nothing_within before
holder_instances (anonymous s k) known before = with_instance s.name known.within before

-- the items of a body, where this stands around them and these instances of the body before them
abbrev pub walked : Laying → Around → Inside → Items → Walked
walked lay a before no_items = record { slots = no_slots; instances = before }
walked lay a before (plain p rest) =
    let more = walked lay (after_plain p a) (plain_instances a p before) rest in
    record { slots = slot (plain_slot a before p) more.slots; instances = more.instances }
walked lay a before (holder h body rest) =
    let inner = walked lay a no_instances body in
    let core = core_of lay (holder_kind h) a.defaults body inner.slots in
    let known = known_of core inner.instances in
    let more = walked lay (after_holder h known a) (holder_instances h known before) rest in
    record { slots = holder_slots h body core inner.slots more.slots; instances = more.instances }

-- what is kept of a component, and what those around it know of it
abbrev pub body_of : Laying → Around → Items → Walked
body_of lay a body = walked lay a no_instances body

abbrev pub node : Laying → Around → Kind → Items → Node
node lay a k body = record { core = core_of lay k a.defaults body (body_of lay a body).slots; slots = (body_of lay a body).slots }

abbrev pub known : Laying → Around → Kind → Items → Known
known lay a k body = known_of (node lay a k body).core (body_of lay a body).instances
