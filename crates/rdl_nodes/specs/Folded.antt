-- What is inside a component, as the code folds it: item by item from the last one, each sum as a `u64` that stops at its greatest value.
-- own: how the code holds contents.
use Rattle.std.specs.Prelude.{◌≡◌, ◌+◌, max, ◌||◌, true}
use Rattle.rdl_tree.specs.Weight.{capped}
use Rattle.rdl_nodes.specs.declared.contents.Contents.{Contents}
use Rattle.rdl_seen.specs.Contents as seen
use Rattle.rdl_seen.specs.Slots.{FieldBody, Slots}
use Rattle.rdl_seen.specs.Modes.{and_modes}
use Rattle.rdl_seen.specs.Names.{with_names}
use Rattle.rdl_seen.specs.PropertySet.{with_properties}
use Rattle.rdl_seen.specs.declared.seen.Seen.{Seen}

-- what is folded of these items is what is inside them, each sum up to the greatest value
pub record AreInside (c : Contents) (s : Slots) : Type 0 where
  pub levels : c.levels ≡ (seen.contents s).levels
  pub depth : c.depth ≡ (seen.contents s).depth
  pub rows : c.rows ≡ capped (seen.contents s).rows
  pub has_instances : c.has_instances ≡ (seen.contents s).has_instances
  pub count : c.count ≡ capped (seen.contents s).count
  pub weight : c.weight ≡ capped (seen.contents s).weight
  pub has_empty : c.has_empty ≡ (seen.contents s).has_empty
  pub sound : c.sound ≡ (seen.contents s).sound
  pub takes : c.takes ≡ seen.takes s
  pub asks : c.asks ≡ seen.asks s
  pub is_assigned : c.is_assigned ≡ seen.is_assigned s

-- ---- One more item in front of those that are folded.

abbrev pub with_field : FieldBody → Contents → Contents
with_field f c =
    record c {
      levels = max 1 c.levels;
      depth = max 1 c.depth;
      rows = capped (1 + c.rows);
      has_instances = true;
      count = capped (f.count + c.count);
      weight = capped (f.weight + c.weight);
    }

abbrev pub with_written : Seen → Contents → Contents
with_written s c =
    record c {
      depth = max (s.depth + 1) c.depth;
      count = capped (s.count + c.count);
      weight = capped (s.weight + c.weight);
      takes = with_properties s.takes c.takes;
      asks = with_names s.asks c.asks;
      is_assigned = s.is_assigned || c.is_assigned;
    }

abbrev pub with_instance : Seen → Contents → Contents
with_instance s c =
    record c {
      levels = max (s.levels + 1) c.levels;
      rows = capped (s.rows + 1 + c.rows);
      has_instances = true;
      has_empty = s.has_empty || s.is_empty || c.has_empty;
      sound = and_modes s.sound c.sound;
    }
