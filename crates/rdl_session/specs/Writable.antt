-- Which maps and patches a written session gives back.
-- own: SystemRDL 2.0 has no sessions.
use Rattle.std.specs.Prelude.{ℕ, ◌<◌, ◌≤◌, ◌^◌, List, [], ◌∷◌, length, IfSome, All}
use Rattle.rdl_tree.specs.ItemAt.{item_at}
use Rattle.rdl_tree.specs.Items.{Items}
use Rattle.rdl_tree.specs.Limits.{IsWithinLimits}
use Rattle.rdl_tree.specs.Patch.{patched}
use Rattle.rdl_session.specs.Text.{PatchLines, shell_item, value_item, target_item, max_session}
use Rattle.rdl_tree.specs.View.{items_of}
use Rattle.rdl_tree.specs.declared.description.Item.{Item}
use Rattle.rdl_tree.specs.declared.part.Part.{Part}
use Rattle.rdl_tree.specs.declared.part.Part.TheVariants.{OfShell, OfValue, OfTarget, OfType, OfDefine}
use Rattle.rdl_tree.specs.declared.patch.Patch.{Patch}
use Rattle.rdl_tree.specs.declared.patch.Patch.TheVariants.{Insert, Delete, Shift, Exchange}
use Rattle.rdl_session.specs.Spelling.{IsItemAddress, IsFreeName, SpellsPatch, SpellsMap, SpellsSession}
use Rattle.rdl_session.specs.Written.{written_session}
use Rattle.rdl_round.specs.Writable.{IsWritable}

-- ---- What is read back.

-- the text of the written session spells the map and the steps that were written, where it isn't too long
abbrev pub SessionReadsBack : Items → (undo redo : List (List Patch)) → Type 0
SessionReadsBack d undo redo = length (written_session d undo redo) ≤ max_session → SpellsSession (written_session d undo redo) d undo redo

-- ---- What can be written.

-- an item, as a body of its own
abbrev pub IsWritableItem : Item → Type 0
IsWritableItem x = IsWritable (items_of (x ∷ []))

-- a part, as the item that stands for it; a name of a type or a definition isn't reserved
abbrev pub IsWritablePart : Part → Type 0
IsWritablePart (OfShell s) = IsWritableItem (shell_item s)
IsWritablePart (OfValue v) = IsWritableItem (value_item v)
IsWritablePart (OfTarget t) = IsWritableItem (target_item t)
IsWritablePart (OfType n) = IsFreeName n
IsWritablePart (OfDefine n) = IsFreeName n

-- its address is that of an item, never the empty one, and what it brings can be written
abbrev pub IsWritablePatch : Patch → Type 0
IsWritablePatch (Insert at x) = IsItemAddress at × IsWritableItem x
IsWritablePatch (Delete at) = IsItemAddress at
IsWritablePatch (Shift at to) = IsItemAddress at × (to < 2 ^ 64)
IsWritablePatch (Exchange at part) = IsItemAddress at × IsWritablePart part

-- so are all patches of the steps
abbrev pub AreWritable : List (List Patch) → Type 0
AreWritable steps = All (All IsWritablePatch) steps

-- the item that it takes out, as a body of its own, is within the limits
abbrev pub IsDropWithin : Patch → Items → Type 0
IsDropWithin (Delete at) d = IfSome (item_at at d) (λ x. IsWithinLimits (items_of (x ∷ [])))
IsDropWithin patch d = Unit {0}

-- so is each that the patches take out on their way
abbrev pub AreDropsWithin : List Patch → Items → Type 0
AreDropsWithin [] d = Unit {0}
AreDropsWithin (patch ∷ patches) d = IsDropWithin patch d × AreDropsWithin patches (patched patch d)

-- ---- What texts spell.

abbrev pub IsSpelledMap : Items → Type 0
IsSpelledMap d = (text : List ℕ) × SpellsMap text d

abbrev pub IsSpelledPatch : Patch → Type 0
IsSpelledPatch patch = (lines : PatchLines) × SpellsPatch lines patch

abbrev pub AreSpelled : List (List Patch) → Type 0
AreSpelled steps = All (All IsSpelledPatch) steps
