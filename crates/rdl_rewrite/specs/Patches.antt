-- The patches of an edit that isn't refused: one for each item that it inserts, drops, moves or sets.
-- own: SystemRDL 2.0 has no edits.
use Rattle.std.specs.Prelude.{ℕ, suc, ◌+◌, if◌then◌else◌, List, [], ◌∷◌, ◌++◌, length, Option, Some, None, Result, Ok, Err, slice_get}
use Rattle.std.specs.List.{position}
use Rattle.rdl_tree.specs.Items.{Items}
use Rattle.rdl_tree.specs.View.{list_of}
use Rattle.rdl_tree.specs.Address.{holder_of, number_of, body_at}
use Rattle.rdl_tree.specs.Depth.{depth}
use Rattle.rdl_tree.specs.Edit.{remove_item}
use Rattle.rdl_tree.specs.Find.{find}
use Rattle.rdl_tree.specs.declared.description.Item.{Item}
use Rattle.rdl_tree.specs.declared.description.Item.TheVariants.{Instance, Dynamic}
use Rattle.rdl_tree.specs.declared.part.Part.TheVariants.{OfShell, OfValue}
use Rattle.rdl_tree.specs.declared.patch.Patch.{Patch}
use Rattle.rdl_tree.specs.declared.patch.Patch.TheVariants.{Insert, Delete, Shift, Exchange}
use Rattle.rdl_tree.specs.declared.path.PathFault.{PathFault}
use Rattle.rdl_tree.specs.declared.shell.Shell.{Shell}
use Rattle.rdl_tree.specs.declared.value.Value.{Value}
use Rattle.rdl_rewrite.specs.Assignment.{assigns, assignment, is_sort, up_to_last}
use Rattle.rdl_rewrite.specs.Dynamics.{assigns_to}
use Rattle.rdl_rewrite.specs.Fates.{fate, fate_patches}
use Rattle.rdl_rewrite.specs.Place.{place_number}
use Rattle.rdl_rewrite.specs.Rewritten.{path_of, is_of_item}
use Rattle.rdl_rewrite.specs.Shell.{edited_shell}
use Rattle.rdl_rewrite.specs.declared.assignment.Sort.{Sort}
use Rattle.rdl_rewrite.specs.declared.assignment.Sort.TheVariants.{Own, Default}
use Rattle.rdl_rewrite.specs.declared.edit.Edit.{Edit}
use Rattle.rdl_rewrite.specs.declared.edit.Edit.TheVariants.{Add, Remove, Rename, Move, SetOwn, SetDefault, ClearOwn, ClearDefault, Assign, Unassign}

-- ---- In the body on the way.

-- each of the items is inserted, the first where it gets this number
abbrev pub inserts : (way : List ℕ) → ℕ → List Item → List Patch
inserts way number [] = []
inserts way number (x ∷ xs) = Insert (way ++ number ∷ []) x ∷ inserts way (suc number) xs

abbrev pub inserts_at : (way : List ℕ) → Option ℕ → List Item → List Patch
inserts_at way None xs = []
inserts_at way (Some number) xs = inserts way number xs

abbrev pub move : (way : List ℕ) → (from : ℕ) → (to : Option ℕ) → List Patch
move way from None = []
move way from (Some to) = Shift (way ++ from ∷ []) to ∷ []

abbrev pub drop_at : (way : List ℕ) → Option ℕ → List Patch
drop_at way None = []
drop_at way (Some number) = Delete (way ++ number ∷ []) ∷ []

-- the assignment that is there gets the value; where there is none, this one is inserted
abbrev pub set_or_insert : (way : List ℕ) → Option ℕ → Value → (number : ℕ) → Item → List Patch
set_or_insert way (Some there) value number x = Exchange (way ++ there ∷ []) (OfValue value) ∷ []
set_or_insert way None value number x = Insert (way ++ number ∷ []) x ∷ []

abbrev pub set_property : (way : List ℕ) → Sort → List ℕ → Value → List Item → List Patch
set_property way sort property value xs =
    set_or_insert way (position (assigns sort property) xs) value (up_to_last (is_sort sort) xs) (assignment sort property value)

abbrev pub set_dynamic : (way : List ℕ) → List (List ℕ) → List ℕ → Value → List Item → List Patch
set_dynamic way target property value xs =
    set_or_insert way (position (assigns_to target property) xs) value (length xs) (Dynamic target property value)

abbrev pub reshape : (Shell → Shell) → (at : List ℕ) → Option Item → List Patch
reshape change at (Some (Instance s of)) = Exchange at (OfShell (change s)) ∷ []
reshape change at x = []

-- the number is that of the item, for an edit of an item
abbrev pub body_patches : (way : List ℕ) → ℕ → Edit → Items → List Patch
body_patches way number (Add path place new) b = inserts_at way (place_number place (list_of b)) (list_of new)
body_patches way number (Move path place) b = move way number (place_number place (list_of (remove_item number b)))
body_patches way number (SetOwn path property value) b = set_property way Own property value (list_of b)
body_patches way number (SetDefault path property value) b = set_property way Default property value (list_of b)
body_patches way number (ClearOwn path property) b = drop_at way (position (assigns Own property) (list_of b))
body_patches way number (ClearDefault path property) b = drop_at way (position (assigns Default property) (list_of b))
body_patches way number (Assign path target property value) b = set_dynamic way target property value (list_of b)
body_patches way number (Unassign path target property) b = drop_at way (position (assigns_to target property) (list_of b))
body_patches way number e b = reshape (edited_shell e) (way ++ number ∷ []) (slice_get (list_of b) number)

abbrev pub patches_in : (way : List ℕ) → ℕ → Edit → Option Items → List Patch
patches_in way number e None = []
patches_in way number e (Some b) = body_patches way number e b

-- ---- Of every edit.

abbrev pub item_edit_patches : (whole : Items) → (way : List ℕ) → Edit → List Patch
item_edit_patches whole way (Remove path) = fate_patches (fate whole way None) [] 0 whole
item_edit_patches whole way (Rename path name) = fate_patches (fate whole way (Some name)) [] 0 whole
item_edit_patches whole way e = patches_in (holder_of way) (number_of way) e (body_at (holder_of way) whole)

abbrev pub patches_on : Result (List ℕ) PathFault → (whole : Items) → Edit → List Patch
patches_on (Err fault) whole e = []
patches_on (Ok way) whole e = if is_of_item e then item_edit_patches whole way e else patches_in way 0 e (body_at way whole)

abbrev pub patches : (whole : Items) → Edit → List Patch
patches whole e = patches_on (find (path_of e) whole) whole e

-- ---- How deep an edit reaches: the level of the innermost body that it looks into, changes or puts in.

-- it changes the body on the way
abbrev pub level_in : (way : List ℕ) → Edit → ℕ
level_in way (Add path place new) = length way + depth new
level_in way e = length way

-- removing and renaming look into every body
abbrev pub item_edit_level : (whole : Items) → (way : List ℕ) → Edit → ℕ
item_edit_level whole way (Remove path) = depth whole
item_edit_level whole way (Rename path name) = depth whole
item_edit_level whole way e = level_in (holder_of way) e

abbrev pub level_on : Result (List ℕ) PathFault → (whole : Items) → Edit → ℕ
level_on (Err fault) whole e = 0
level_on (Ok way) whole e = if is_of_item e then item_edit_level whole way e else level_in way e

abbrev pub level : (whole : Items) → Edit → ℕ
level whole e = level_on (find (path_of e) whole) whole e
