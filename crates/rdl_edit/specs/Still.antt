-- Patches that change nothing on which a layout depends: the skeleton of the description stays, and so do all layouts.
-- own: SystemRDL 2.0 has no edits.
use Rattle.std.specs.Prelude.{◌≡◌, not, Bool, true, false, IsSomeAnd, List, [], ◌∷◌}
use Rattle.rdl_tree.specs.Items.{Items}
use Rattle.rdl_tree.specs.ItemAt.{item_at}
use Rattle.rdl_tree.specs.Patch.{patched}
use Rattle.rdl_tree.specs.declared.description.Item.{Item}
use Rattle.rdl_tree.specs.declared.description.Item.TheVariants.{Define, Instance, Own, Default, Dynamic}
use Rattle.rdl_tree.specs.declared.part.Part.{Part}
use Rattle.rdl_tree.specs.declared.part.Part.TheVariants.{OfShell}
use Rattle.rdl_tree.specs.declared.patch.Patch.{Patch}
use Rattle.rdl_tree.specs.declared.patch.Patch.TheVariants.{Insert, Delete, Shift, Exchange}
use Rattle.rdl_rewrite.specs.declared.edit.Edit.{Edit}
use Rattle.rdl_rewrite.specs.declared.edit.Edit.TheVariants.{Rename, SetReset, SetOwn, SetDefault, ClearOwn, ClearDefault, Assign, Unassign}
use Rattle.rdl_reach.specs.Quiet.{SaysTheSame}
use Rattle.rdl_reach.specs.EditedBodies.{lays_out}

-- an assignment to what stands inside an instance, or of a property on which no layout depends
abbrev pub is_still : Item → Bool
is_still (Define n c) = false
is_still (Instance s o) = false
is_still (Own p v) = not (lays_out p)
is_still (Default p v) = not (lays_out p)
is_still (Dynamic t p v) = true

-- an instance says the same of its place with the new shell; any other part is given to such an assignment alone
abbrev pub IsStillPart : Part → Item → Type 0
IsStillPart (OfShell new) (Instance s o) = SaysTheSame s new
IsStillPart new x = is_still x ≡ true

-- such an assignment comes, goes or moves, or an item gets such a part
abbrev pub IsStill : Patch → Items → Type 0
IsStill (Insert at x) t = is_still x ≡ true
IsStill (Delete at) t = IsSomeAnd (item_at at t) (λ x. is_still x ≡ true)
IsStill (Shift at to) t = IsSomeAnd (item_at at t) (λ x. is_still x ≡ true)
IsStill (Exchange at new) t = IsSomeAnd (item_at at t) (IsStillPart new)

-- from the first to the last
abbrev pub AreStill : List Patch → Items → Type 0
AreStill [] t = Unit {0}
AreStill (p ∷ ps) t = IsStill p t × AreStill ps (patched p t)

-- an edit that sets a reset, sets or takes out what is assigned to something inside an instance, or an assignment or default of a property
-- on which no layout depends
abbrev pub is_still_edit : Edit → Bool
is_still_edit (SetReset path new) = true
is_still_edit (SetOwn path property value) = not (lays_out property)
is_still_edit (SetDefault path property value) = not (lays_out property)
is_still_edit (ClearOwn path property) = not (lays_out property)
is_still_edit (ClearDefault path property) = not (lays_out property)
is_still_edit (Assign path target property value) = true
is_still_edit (Unassign path target property) = true
is_still_edit e = false

-- such an edit, or a renaming: no layout changes
abbrev pub keeps_layouts : Edit → Bool
keeps_layouts (Rename path name) = true
keeps_layouts e = is_still_edit e
