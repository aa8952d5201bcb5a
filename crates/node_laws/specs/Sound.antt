-- In which modes no row below a component can have a fault, in words of what stands at its address.
-- SystemRDL 2.0: fields (clause 9), registers (10), instance addresses (5, 13), dynamic assignments (5). own: that it is judged once for
-- all instances.
use Rattle.std.specs.Prelude.{ℕ, ◌&&◌, ◌||◌, Bool, true, List, [], ◌∷◌, Option, option_map}
use Rattle.std.specs.Option.{option_or}
use Rattle.rdl_tree.specs.Items.{Items, no_items, plain, holder, Plain, named, own, default, dynamic, Holder, define, anonymous}
use Rattle.rdl_scope.specs.Closed.{Head, Parts, no_parts, part, Made}
use Rattle.rdl_seen.specs.declared.seen.Modes.{Modes}
use Rattle.rdl_seen.specs.declared.values.Access.{Access}
use Rattle.rdl_seen.specs.Fields.{clash_none, are_fields_sound}
use Rattle.rdl_seen.specs.Inside.{Spots, Inside, no_instances, with_instance, asked, verdict_of, is_harmless}
use Rattle.rdl_seen.specs.Meaning.{stated_of}
use Rattle.rdl_seen.specs.Modes.{all_modes, and_modes}
use Rattle.rdl_seen.specs.Node.{is_ordered, apart_of, sound_inside, sound_of}
use Rattle.rdl_seen.specs.Values.{bit_count, access}
use Rattle.node_laws.specs.Seen.{layouts_seen, members_seen, spots_seen, within_seen}

-- how many bits the reset of each field needs: that of the instance, or else that of its component
abbrev pub resets_seen : Parts → List (Option ℕ)
resets_seen no_parts = []
resets_seen (part at s h inside rest) = option_or (option_map bit_count s.reset) (stated_of h).reset ∷ resets_seen rest

-- how software accesses each
abbrev pub accesses_seen : Parts → List Access
accesses_seen no_parts = []
accesses_seen (part at s h inside rest) = access (stated_of h) ∷ accesses_seen rest

-- no two fields share a bit, or those that do may, by how they are accessed
abbrev pub shares_allowed : Made → Bool
shares_allowed m = is_ordered m.head.kind (layouts_seen m) || clash_none (layouts_seen m).compact.spans (accesses_seen m.parts)

abbrev pub fields_sound : Made → Bool
fields_sound m = are_fields_sound (stated_of m.head) (layouts_seen m).compact.spans (resets_seen m.parts) (shares_allowed m)

-- the modes in which its instances lie apart
abbrev pub apart_seen : Made → Modes
apart_seen m = apart_of m.head.kind (stated_of m.head) (layouts_seen m) (members_seen m.parts)

-- the first of these instances behind others, and those that follow it
abbrev pub first_behind : Parts → Inside → Inside
first_behind no_parts before = before
first_behind (part at s h inside rest) before = with_instance s.name (within_seen (record { head = h; parts = inside })) before

abbrev pub following : Parts → Parts
following no_parts = no_parts
following (part at s h inside rest) = rest

-- a dynamic assignment behind these instances can give no row a fault
abbrev pub plain_harmless : Spots → Plain → Inside → Bool
plain_harmless spots (named s t) before = true
plain_harmless spots (own p x) before = true
plain_harmless spots (default p x) before = true
plain_harmless spots (dynamic t p x) before = is_harmless spots (verdict_of (asked p x) t before)

-- the instances that stand behind an item, and those that follow
abbrev pub behind_plain : Plain → Parts → Inside → Inside
behind_plain (named s t) ps before = first_behind ps before
behind_plain (own p x) ps before = before
behind_plain (default p x) ps before = before
behind_plain (dynamic t p x) ps before = before

abbrev pub following_plain : Plain → Parts → Parts
following_plain (named s t) ps = following ps
following_plain (own p x) ps = ps
following_plain (default p x) ps = ps
following_plain (dynamic t p x) ps = ps

abbrev pub behind_holder : Holder → Parts → Inside → Inside
behind_holder (define n k) ps before = before
behind_holder (anonymous s k) ps before = first_behind ps before

abbrev pub following_holder : Holder → Parts → Parts
following_holder (define n k) ps = ps
following_holder (anonymous s k) ps = following ps

-- no dynamic assignment among these items can give a row a fault, where these are their instances, behind others
abbrev pub harmless : Spots → Items → Parts → Inside → Bool
harmless spots no_items ps before = true
harmless spots (plain p rest) ps before = plain_harmless spots p before && harmless spots rest (following_plain p ps) (behind_plain p ps before)
harmless spots (holder h body rest) ps before = harmless spots rest (following_holder h ps) (behind_holder h ps before)

-- a component, where its instances are sound in these modes
unfoldable pub sound_by : Head → Parts → Modes → Modes
sound_by h inside all =
    let m : Made = record { head = h; parts = inside } in
    sound_of h.kind (sound_inside h.kind (stated_of h) all) (apart_seen m) (fields_sound m) (harmless (spots_seen m) h.body inside no_instances)

-- the modes in which all instances are sound
abbrev pub all_sound : Parts → Modes
all_sound no_parts = all_modes true
all_sound (part at s h inside rest) = and_modes (sound_by h inside (all_sound inside)) (all_sound rest)

-- the modes in which no row below the component can have a fault, if nothing is assigned there from outside
abbrev pub sound_seen : Made → Modes
sound_seen m = sound_by m.head m.parts (all_sound m.parts)
