-- An edit that keeps layouts makes a quiet step.
use Rattle.std.proofs.Common.{◌≡◌, ℕ, Bool, true, false, List, Some, Result, Ok, Err, refl}
use Rattle.std.specs.Prelude.{if◌then◌else◌}
use Rattle.rdl_tree.specs.Items.{Items}
use Rattle.rdl_tree.specs.Find.{find}
use Rattle.rdl_tree.specs.declared.description.Item.{Item}
use Rattle.rdl_tree.specs.declared.description.Item.TheVariants.{Define, Instance, Own, Default, Dynamic}
use Rattle.rdl_tree.specs.declared.description.Of.TheVariants.{Named, Anonymous}
use Rattle.rdl_tree.specs.declared.part.Part.{Part}
use Rattle.rdl_tree.specs.declared.part.Part.TheVariants.{OfShell, OfTarget, OfType, OfDefine}
use Rattle.rdl_tree.specs.declared.path.PathFault.{PathFault}
use Rattle.rdl_tree.specs.declared.shell.Shell.{Shell}
use Rattle.rdl_scope.specs.Target.{through}
use Rattle.rdl_scope.specs.Types.{type_of}
use Rattle.rdl_rewrite.specs.Addresses.{same, leads_to, passes_by}
use Rattle.rdl_rewrite.specs.Fates.{given_if, fate}
use Rattle.rdl_rewrite.specs.Patches.{patches_on, patches}
use Rattle.rdl_rewrite.specs.Renaming.{renamed_target}
use Rattle.rdl_rewrite.specs.declared.edit.Edit.{Edit}
use Rattle.rdl_rewrite.specs.declared.edit.Edit.TheVariants.{Add, Remove, Rename, Move, Resize, SetBits, SetAddress, SetStride, SetAlign, SetReset, SetOwn, SetDefault, ClearOwn, ClearDefault, Assign, Unassign}
use Rattle.rdl_rewrite.specs.declared.fate.Fate.{Fate}
use Rattle.rdl_rewrite.specs.declared.fate.Fate.TheVariants.{Kept, Given}
use Rattle.rdl_rewrite.proofs.Fates.{apt_renaming}
use Rattle.rdl_reach.specs.Quiet.{IsQuietPart, SaysTheSame, AreQuiet}
use Rattle.rdl_edit.specs.Still.{is_still_edit, keeps_layouts}
use Rattle.rdl_edit.proofs.StillEdits.{still-edit}
use Rattle.rdl_edit.proofs.KeepingLayouts.{keeps}
use Rattle.rdl_edit.specs.QuietEdits.{EditsThatKeepLayoutsAreQuiet}
use Rattle.rdl_edit.proofs.QuietFates.{IsQuietFate, AreQuietFates, quiet-fates}
use Rattle.rdl_edit.proofs.QuietStills.{quiet-stills}

-- ---- A renaming.

given-quiet : (b : Bool) (part : Part) (x : Item) → IsQuietPart part x → IsQuietFate (given_if b part) x
given-quiet true part x q = q
given-quiet false part x q = tt

given-or : (b : Bool) (part : Part) (other : Fate) (x : Item) → IsQuietPart part x → IsQuietFate other x → IsQuietFate (if b then Given part else other) x
given-or true part other x q o = q
given-or false part other x q o = o

another-name : (s : Shell) (name : List ℕ) → SaysTheSame s (record s { name = name })
another-name s name = record { dims = refl; range = refl; address = refl; stride = refl; align = refl }

renaming-quiet : (d : Items) (way name : List ℕ) → AreQuietFates (fate d way (Some name))
renaming-quiet d way name at (Define n c) = given-quiet (same at way) (OfDefine name) (Define n c) tt
renaming-quiet d way name at (Instance s (Named t)) =
    given-or (same at way) (OfShell (record s { name = name })) (given_if (leads_to way (type_of d at)) (OfType name)) (Instance s (Named t)) (another-name s name)
    (given-quiet (leads_to way (type_of d at)) (OfType name) (Instance s (Named t)) tt)
renaming-quiet d way name at (Instance s (Anonymous c)) = given-or (same at way) (OfShell (record s { name = name })) Kept (Instance s (Anonymous c)) (another-name s name) tt
renaming-quiet d way name at (Own p v) = tt
renaming-quiet d way name at (Default p v) = tt
renaming-quiet d way name at (Dynamic t p v) = given-quiet (passes_by way (through d at)) (OfTarget (renamed_target way name (through d at) t)) (Dynamic t p v) refl

on-quiet : (r : Result (List ℕ) PathFault) (d : Items) (e : Edit) → ((way : List ℕ) → AreQuiet (patches_on (Ok way) d e) d) → AreQuiet (patches_on r d e) d
on-quiet (Err fault) d e h = tt
on-quiet (Ok way) d e h = h way

-- ---- Every edit.

of-still : (d : Items) (e : Edit) → is_still_edit e ≡ true → AreQuiet (patches d e) d
of-still d e h = quiet-stills (patches d e) d (still-edit d e h)

edit-quiet : (d : Items) (e : Edit) → keeps_layouts e ≡ true → AreQuiet (patches d e) d
edit-quiet d (Rename path name) h = on-quiet (find path d) d (Rename path name) (λ way. quiet-fates (fate d way (Some name)) (apt_renaming d way name) (renaming-quiet d way name) d)
edit-quiet d (Add path place new) h = cc
edit-quiet d (Remove path) h = cc
edit-quiet d (Move path place) h = cc
edit-quiet d (Resize path new) h = cc
edit-quiet d (SetBits path new) h = cc
edit-quiet d (SetAddress path new) h = cc
edit-quiet d (SetStride path new) h = cc
edit-quiet d (SetAlign path new) h = cc
edit-quiet d (SetReset path new) h = of-still d (SetReset path new) h
edit-quiet d (SetOwn path p v) h = of-still d (SetOwn path p v) h
edit-quiet d (SetDefault path p v) h = of-still d (SetDefault path p v) h
edit-quiet d (ClearOwn path p) h = of-still d (ClearOwn path p) h
edit-quiet d (ClearDefault path p) h = of-still d (ClearDefault path p) h
edit-quiet d (Assign path target p v) h = of-still d (Assign path target p v) h
edit-quiet d (Unassign path target p) h = of-still d (Unassign path target p) h

pub quiet-edits : EditsThatKeepLayoutsAreQuiet
quiet-edits d e accepted h made = record {
  quiet = edit-quiet d e h;
  stays = keeps d e accepted h made;
}
