-- When what is inside a body is what was inside it, but for sums.
use Rattle.std.proofs.Common.{◌≡◌, ℕ, ◌+◌, ◌||◌, max, Bool, true, false, refl, ap, Some, None}
use Rattle.rdl_seen.specs.Contents.{is_assigned, are_harmless}
use Rattle.rdl_seen.specs.Inside.{Spots, Verdict}
use Rattle.rdl_seen.specs.Modes.{and_modes}
use Rattle.rdl_seen.specs.Names.{no_names, names_of, with_names}
use Rattle.rdl_seen.specs.Slots.{FieldBody, own_slot, default_slot, dynamic_slot, field_slot, named_slot, type_slot, part_slot, Core, Slots, no_slots, slot, written}
use Rattle.rdl_seen.specs.declared.property_set.PropertySet.{PropertySet}
use Rattle.rdl_seen.specs.declared.seen.Seen.{Seen}
use Rattle.rdl_nodes.specs.SameInside.{AddSeen, AddsSame}

-- ---- Items that add the same.

pub seen_own : (s : Seen) → AddSeen s s
seen_own s = record { levels = refl; depth = refl; is_empty = refl; has_empty = refl; is_assigned = refl; sound = refl; asks = refl }

pub part_adds : (c d : Core) (i j : Slots) → AddSeen c.seen d.seen → AddsSame (written part_slot c i no_slots) (written part_slot d j no_slots)
part_adds c d i j same = λ s t h. record {
  levels = λ k. max (same.levels k + 1) (h.levels k);
  depth = λ k. max (same.depth k + 1) (h.depth k);
  has_instances = refl;
  has_empty = λ k. same.has_empty k || same.is_empty k || h.has_empty k;
  sound = λ k. and_modes (same.sound k) (h.sound k);
  asks = λ k. with_names (same.asks k) (h.asks k);
  is_assigned = λ k. same.is_assigned k || h.is_assigned k;
}

pub type_adds : (n m : ℕ) (c d : Core) (i j : Slots) → AddSeen c.seen d.seen → AddsSame (written (type_slot n) c i no_slots) (written (type_slot m) d j no_slots)
type_adds n m c d i j same = λ s t h. record {
  levels = h.levels;
  depth = λ k. max (same.depth k + 1) (h.depth k);
  has_instances = h.has_instances;
  has_empty = h.has_empty;
  sound = h.sound;
  asks = λ k. with_names (same.asks k) (h.asks k);
  is_assigned = λ k. same.is_assigned k || h.is_assigned k;
}

pub named_adds : (n m : ℕ) (a b : Seen) → n ≡ m → AddSeen a b → AddsSame (slot (named_slot n (Some a)) no_slots) (slot (named_slot m (Some b)) no_slots)
named_adds n m a b class same = λ s t h. record {
  levels = λ k. max (same.levels k + 1) (h.levels k);
  depth = h.depth;
  has_instances = refl;
  has_empty = λ k. same.has_empty k || same.is_empty k || h.has_empty k;
  sound = λ k. and_modes (same.sound k) (h.sound k);
  asks = λ k. with_names (names_of (class k)) (h.asks k);
  is_assigned = h.is_assigned;
}

pub unknown_adds : (n : ℕ) → AddsSame (slot (named_slot n None) no_slots) (slot (named_slot n None) no_slots)
unknown_adds n = λ s t h. record {
  levels = h.levels;
  depth = h.depth;
  has_instances = h.has_instances;
  has_empty = h.has_empty;
  sound = h.sound;
  asks = ap (with_names (names_of n)) h.asks;
  is_assigned = h.is_assigned;
}

pub field_adds : (f g : FieldBody) → AddsSame (slot (field_slot f) no_slots) (slot (field_slot g) no_slots)
field_adds f g = λ s t h. record {
  levels = λ k. max 1 (h.levels k);
  depth = λ k. max 1 (h.depth k);
  has_instances = refl;
  has_empty = h.has_empty;
  sound = h.sound;
  asks = ap (with_names no_names) h.asks;
  is_assigned = h.is_assigned;
}

pub own_adds : AddsSame (slot own_slot no_slots) (slot own_slot no_slots)
own_adds = λ s t h. record {
  levels = h.levels;
  depth = h.depth;
  has_instances = h.has_instances;
  has_empty = h.has_empty;
  sound = h.sound;
  asks = ap (with_names no_names) h.asks;
  is_assigned = h.is_assigned;
}

pub default_adds : (p q : PropertySet) → AddsSame (slot (default_slot p) no_slots) (slot (default_slot q) no_slots)
default_adds p q = λ s t h. record {
  levels = h.levels;
  depth = h.depth;
  has_instances = h.has_instances;
  has_empty = h.has_empty;
  sound = h.sound;
  asks = ap (with_names no_names) h.asks;
  is_assigned = h.is_assigned;
}

pub dynamic_adds : (v w : Verdict) → AddsSame (slot (dynamic_slot v) no_slots) (slot (dynamic_slot w) no_slots)
dynamic_adds v w = λ s t h. record {
  levels = h.levels;
  depth = h.depth;
  has_instances = h.has_instances;
  has_empty = h.has_empty;
  sound = h.sound;
  asks = ap (with_names no_names) h.asks;
  is_assigned = refl;
}

-- ---- Where no dynamic assignment is inside, none can give a row a fault.

pub unassigned_harmless : (p : Spots) (s : Slots) → is_assigned s ≡ false → are_harmless p s ≡ true
unassigned_harmless p no_slots none = refl
unassigned_harmless p (slot own_slot rest) none = unassigned_harmless p rest none
unassigned_harmless p (slot (default_slot q) rest) none = unassigned_harmless p rest none
unassigned_harmless p (slot (dynamic_slot v) rest) none = absurd cc
unassigned_harmless p (slot (field_slot f) rest) none = unassigned_harmless p rest none
unassigned_harmless p (slot (named_slot class seen) rest) none = unassigned_harmless p rest none
unassigned_harmless p (written w c inside rest) none = unassigned_harmless p rest (second c.seen.is_assigned (is_assigned rest) none)
  where
    second : (a b : Bool) → (a || b) ≡ false → b ≡ false
    second false b e = e
    second true b e = absurd cc
