-- What is kept of a component but for its items, with given layouts.
-- own: SystemRDL 2.0 has no edits.
use Rattle.std.specs.Prelude.{ℕ, ◌+◌, ◌-◌, ◌^◌, ◌||◌, ◌&&◌, not, min, Bool}
use Rattle.rdl_tree.specs.Items.{Items}
use Rattle.rdl_tree.specs.declared.shell.Kind.{Kind}
use Rattle.rdl_seen.specs.declared.property_set.PropertySet.{PropertySet}
use Rattle.rdl_seen.specs.declared.seen.Modes.{Modes}
use Rattle.rdl_seen.specs.declared.seen.Seen.{Seen}
use Rattle.rdl_seen.specs.declared.values.Values.{Values}
use Rattle.rdl_seen.specs.Contents.{contents, asks, takes, is_assigned, are_harmless, item_count}
use Rattle.rdl_seen.specs.Fields.{members, resets, accesses, field_takes, clash_none}
use Rattle.rdl_seen.specs.Layouts.{Layouts, sizes, accesses as widest}
use Rattle.rdl_seen.specs.Node.{is_container, is_ordered, spots_of, sound_inside, sound_of, without_access, values_of, core_by}
use Rattle.rdl_seen.specs.PropertySet.{kind_set, with_properties, without_properties}
use Rattle.rdl_seen.specs.Slots.{Core, Slots}
use Rattle.rdl_seen.specs.Values.{stated, access}

-- no two of its fields share a bit, or those that do may, by how they are accessed
abbrev pub may_share : Kind → Layouts → Values → Items → Slots → Bool
may_share k l defaults body s = is_ordered k l || clash_none l.compact.spans (accesses defaults body s)

-- a component whose items are these, under the defaults that reach it, with these layouts
abbrev pub core_with : Kind → Values → Items → Slots → Layouts → Core
core_with k defaults body s l =
    core_by k body s (values_of k defaults body) (members defaults body s) l (resets defaults body s) (may_share k l defaults body s)

-- what is seen of a component with these items, of which there are so many and which weigh so much
abbrev pub seen_with : Kind → Values → Layouts → Slots → (takes : PropertySet) → (sound : Modes) → (ordered : Bool) → (items weight : ℕ) → Seen
seen_with k v l s takes sound ordered items weight =
    record {
      kind = k;
      levels = min (contents s).levels 16;
      depth = min (contents s).depth 255;
      access = access v;
      reset = v.reset;
      takes = takes;
      sound = sound;
      is_empty = is_container k && not (contents s).has_instances;
      has_empty = (contents s).has_empty;
      is_ordered = ordered;
      is_assigned = is_assigned s;
      rows = min (contents s).rows 65536;
      count = min ((contents s).count + min items (2 ^ 30)) (2 ^ 32 - 1);
      weight = min ((contents s).weight + weight) (2 ^ 32 - 1);
      widest = widest l;
      size = sizes l;
      asks = asks s;
    }

-- a component of which it is said what its own assignments state and its items weigh, its values, its layouts, the modes in which its instances lie
-- apart, and whether its fields are sound
abbrev pub core_made : Kind → (own : Values) → (own_weight : ℕ) → Values → Layouts → (apart : Modes) → Items → Slots → (fields : Bool) → Core
core_made k own weight v l apart body s fields =
    let takes = with_properties (without_properties (kind_set k) (stated own)) (with_properties (without_access (is_ordered k l) (field_takes body s)) (takes s)) in
    let sound = sound_of k (sound_inside k v (contents s).sound) apart fields (are_harmless (spots_of k l) s) in
    record { seen = seen_with k v l s takes sound (is_ordered k l) (item_count body) weight; own = own; values = v; layouts = l; apart = apart; own_weight = weight }
