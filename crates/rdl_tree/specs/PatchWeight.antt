-- The weight of patches: 1 for each, and its numbers, and the weight of its item or the bytes of its part's texts; and
-- what a step along patches takes away.
-- own: SystemRDL 2.0 has no weights.
use Rattle.std.specs.Prelude.{ℕ, ◌+◌, List, [], ◌∷◌, length, sum_by, Option, Some, None}
use Rattle.rdl_tree.specs.Items.{Items}
use Rattle.rdl_tree.specs.ItemAt.{item_at}
use Rattle.rdl_tree.specs.ItemWeight.{item_weight}
use Rattle.rdl_tree.specs.Weight.{value_weight}
use Rattle.rdl_tree.specs.Part.{part_of}
use Rattle.rdl_tree.specs.Patch.{patched}
use Rattle.rdl_tree.specs.declared.description.Item.{Item}
use Rattle.rdl_tree.specs.declared.part.Part.{Part}
use Rattle.rdl_tree.specs.declared.part.Part.TheVariants.{OfShell, OfValue, OfTarget, OfType, OfDefine}
use Rattle.rdl_tree.specs.declared.patch.Patch.{Patch}
use Rattle.rdl_tree.specs.declared.patch.Patch.TheVariants.{Insert, Delete, Shift, Exchange}

-- the bytes of a part's texts
abbrev pub part_weight : Part → ℕ
part_weight (OfShell s) = length s.name
part_weight (OfValue v) = value_weight v
part_weight (OfTarget t) = sum_by length t
part_weight (OfType n) = length n
part_weight (OfDefine n) = length n

abbrev pub patch_weight : Patch → ℕ
patch_weight (Insert at x) = 1 + length at + item_weight x
patch_weight (Delete at) = 1 + length at
patch_weight (Shift at to) = 2 + length at
patch_weight (Exchange at part) = 1 + length at + part_weight part

abbrev pub patches_weight : List Patch → ℕ
patches_weight ps = sum_by patch_weight ps

-- ---- What a patch takes away: the item that it drops, or the texts of the part that it sets.

abbrev pub dropped_weight : Option Item → ℕ
dropped_weight None = 0
dropped_weight (Some x) = item_weight x

abbrev pub old_part_weight : Part → Option Item → ℕ
old_part_weight part None = 0
old_part_weight part (Some x) = part_weight (part_of part x)

abbrev pub taken_by : Patch → Items → ℕ
taken_by (Insert at x) t = 0
taken_by (Delete at) t = dropped_weight (item_at at t)
taken_by (Shift at to) t = 0
taken_by (Exchange at part) t = old_part_weight part (item_at at t)

-- what a step along patches takes away: each of them where those before it led
abbrev pub taken : List Patch → Items → ℕ
taken [] t = 0
taken (p ∷ ps) t = taken_by p t + taken ps (patched p t)
