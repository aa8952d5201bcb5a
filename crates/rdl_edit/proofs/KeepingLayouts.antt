-- An edit that changes no layout keeps the skeleton.
use Rattle.std.proofs.Common.{◌≡◌, ℕ, Bool, true, false, ◌==◌, List, length, None, Result, Ok, Err, refl, sym, ◌∙◌}
use Rattle.std.specs.Prelude.{if◌then◌else◌}
use Rattle.rdl_tree.specs.Items.{Items}
use Rattle.rdl_tree.specs.Find.{find}
use Rattle.rdl_tree.specs.Patch.{image}
use Rattle.rdl_tree.specs.declared.path.PathFault.{PathFault}
use Rattle.rdl_scope.specs.ItemFaults.{fault_of}
use Rattle.rdl_rewrite.specs.Patches.{patches}
use Rattle.rdl_rewrite.specs.Renaming.{renamed}
use Rattle.rdl_rewrite.specs.Rewritten.{by_way, rewritten}
use Rattle.rdl_rewrite.specs.declared.assignment.Sort.TheVariants as sort
use Rattle.rdl_rewrite.specs.declared.edit.Edit.{Edit}
use Rattle.rdl_rewrite.specs.declared.edit.Edit.TheVariants.{Add, Remove, Rename, Move, Resize, SetBits, SetAddress, SetStride, SetAlign, SetReset, SetOwn, SetDefault, ClearOwn, ClearDefault, Assign, Unassign}
use Rattle.rdl_rewrite.specs.declared.edit.PatchRefusal.TheVariants.{NotAnInstance}
use Rattle.rdl_reach.specs.Skeleton.{skeleton}
use Rattle.rdl_edit.specs.Still.{is_still_edit, keeps_layouts}
use Rattle.rdl_edit.proofs.NewNames.{renaming-same}
use Rattle.rdl_edit.proofs.StillEdits.{still-edit}
use Rattle.rdl_edit.proofs.Staying.{skeleton-stays}

-- ---- The skeleton.

by-root : (d new : Items) (way name : List ℕ) (root : Bool) → fault_of d ≡ None → (if root then Err NotAnInstance else renamed d way name) ≡ Ok new → skeleton new ≡ skeleton d
by-root d new way name true accepted e = cc
by-root d new way name false accepted e = renaming-same d new way name accepted e

renaming-keeps : (d new : Items) (name : List ℕ) (e : Edit) (r : Result (List ℕ) PathFault) → fault_of d ≡ None → ((way : List ℕ) → by_way (Ok way) d e ≡ (if length way == 0 then Err NotAnInstance else renamed d way name))
    → by_way r d e ≡ Ok new → skeleton new ≡ skeleton d
renaming-keeps d new name e (Err fault) accepted is made = cc
renaming-keeps d new name e (Ok way) accepted is made = by-root d new way name (length way == 0) accepted (sym (is way) ∙ made)

still-keeps : (d : Items) (e : Edit) → is_still_edit e ≡ true → skeleton (image (patches d e) d) ≡ skeleton d
still-keeps d e still = skeleton-stays (patches d e) d (still-edit d e still)

pub keeps : (d : Items) (e : Edit) → fault_of d ≡ None → keeps_layouts e ≡ true → rewritten d e ≡ Ok (image (patches d e) d) → skeleton (image (patches d e) d) ≡ skeleton d
keeps d (Rename path name) accepted h made = renaming-keeps d (image (patches d (Rename path name)) d) name (Rename path name) (find path d) accepted (λ way. refl) made
keeps d (Add path place new) accepted h made = cc
keeps d (Remove path) accepted h made = cc
keeps d (Move path place) accepted h made = cc
keeps d (Resize path new) accepted h made = cc
keeps d (SetBits path new) accepted h made = cc
keeps d (SetAddress path new) accepted h made = cc
keeps d (SetStride path new) accepted h made = cc
keeps d (SetAlign path new) accepted h made = cc
keeps d (SetReset path new) accepted h made = still-keeps d (SetReset path new) h
keeps d (SetOwn path p v) accepted h made = still-keeps d (SetOwn path p v) h
keeps d (SetDefault path p v) accepted h made = still-keeps d (SetDefault path p v) h
keeps d (ClearOwn path p) accepted h made = still-keeps d (ClearOwn path p) h
keeps d (ClearDefault path p) accepted h made = still-keeps d (ClearDefault path p) h
keeps d (Assign path target p v) accepted h made = still-keeps d (Assign path target p v) h
keeps d (Unassign path target p) accepted h made = still-keeps d (Unassign path target p) h

-- ---- No item moves.

-- ---- Nor do the patches that take these back.
