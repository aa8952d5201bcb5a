-- When what is inside a body is what was inside it, but for sums: the rows, the items and what these weigh, and the properties whose defaults
-- matter.
-- own: how the code folds what is inside a body again.
use Rattle.std.specs.Prelude.{◌≡◌, ◌+◌, true, Bool}
use Rattle.rdl_tree.specs.Weight.{capped}
use Rattle.rdl_nodes.specs.declared.contents.Sums.{Sums}
use Rattle.rdl_seen.specs.Contents.{contents, asks, takes, is_assigned}
use Rattle.rdl_seen.specs.OneByOne.{joined}
use Rattle.rdl_seen.specs.PropertySet.{with_properties}
use Rattle.rdl_seen.specs.Slots.{FieldBody, Slots}
use Rattle.rdl_seen.specs.declared.seen.Seen.{Seen}

-- ---- The sums, as the code folds them: item by item from the last one, each number as a `u64` that stops at its greatest value.

-- these are those of these items
pub record AreSums (c : Sums) (s : Slots) : Type 0 where
  pub rows : c.rows ≡ capped (contents s).rows
  pub count : c.count ≡ capped (contents s).count
  pub weight : c.weight ≡ capped (contents s).weight
  pub takes : c.takes ≡ takes s

-- one more item in front of those that are folded
abbrev pub sums_with_field : FieldBody → Sums → Sums
sums_with_field f c = record c { rows = capped (1 + c.rows); count = capped (f.count + c.count); weight = capped (f.weight + c.weight) }

abbrev pub sums_with_written : Seen → Sums → Sums
sums_with_written s c = record c { count = capped (s.count + c.count); weight = capped (s.weight + c.weight); takes = with_properties s.takes c.takes }

abbrev pub sums_with_instance : Seen → Sums → Sums
sums_with_instance s c = record c { rows = capped (s.rows + 1 + c.rows) }

-- ---- All else.

-- inside both is the same, but for sums
pub record HaveSame (s t : Slots) : Type 0 where
  pub levels : (contents s).levels ≡ (contents t).levels
  pub depth : (contents s).depth ≡ (contents t).depth
  pub has_instances : (contents s).has_instances ≡ (contents t).has_instances
  pub has_empty : (contents s).has_empty ≡ (contents t).has_empty
  pub sound : (contents s).sound ≡ (contents t).sound
  pub asks : asks s ≡ asks t
  pub is_assigned : is_assigned s ≡ is_assigned t

-- of two components that is seen which adds the same to it
pub record AddSeen (s t : Seen) : Type 0 where
  pub levels : s.levels ≡ t.levels
  pub depth : s.depth ≡ t.depth
  pub is_empty : s.is_empty ≡ t.is_empty
  pub has_empty : s.has_empty ≡ t.has_empty
  pub is_assigned : s.is_assigned ≡ t.is_assigned
  pub sound : s.sound ≡ t.sound
  pub asks : s.asks ≡ t.asks

-- these items add the same to it, whatever stands behind them
abbrev pub AddsSame : Slots → Slots → Type 0
AddsSame f g = (s t : Slots) → HaveSame s t → HaveSame (joined f s) (joined g t)

-- if that is said, inside both is the same
abbrev pub StaysInside : Bool → Slots → Slots → Type 0
StaysInside same s t = same ≡ true → HaveSame s t
