-- What becomes of each item, in every body, where an item is taken out or gets another name; and the patches for it.
-- own: SystemRDL 2.0 has no edits.
use Rattle.std.specs.Prelude.{ℕ, suc, Bool, true, false, if◌then◌else◌, List, [], ◌∷◌, ◌++◌, Option, Some, None}
use Rattle.rdl_tree.specs.Items.{Items, no_items, plain, holder}
use Rattle.rdl_tree.specs.View.{plain_item, holder_item}
use Rattle.rdl_tree.specs.declared.description.Item.{Item}
use Rattle.rdl_tree.specs.declared.description.Item.TheVariants.{Define, Instance, Own, Default, Dynamic}
use Rattle.rdl_tree.specs.declared.description.Of.{Of}
use Rattle.rdl_tree.specs.declared.description.Of.TheVariants.{Named, Anonymous}
use Rattle.rdl_tree.specs.declared.part.Part.{Part}
use Rattle.rdl_tree.specs.declared.part.Part.TheVariants.{OfShell, OfTarget, OfType, OfDefine}
use Rattle.rdl_tree.specs.declared.patch.Patch.{Patch}
use Rattle.rdl_tree.specs.declared.patch.Patch.TheVariants.{Delete, Exchange}
use Rattle.rdl_scope.specs.Types.{type_of}
use Rattle.rdl_scope.specs.Target.{through}
use Rattle.rdl_rewrite.specs.Addresses.{same, leads_to, passes_by}
use Rattle.rdl_rewrite.specs.Removal.{goes}
use Rattle.rdl_rewrite.specs.Renaming.{renamed_target}
use Rattle.rdl_rewrite.specs.declared.fate.Fate.{Fate}
use Rattle.rdl_rewrite.specs.declared.fate.Fate.TheVariants.{Kept, Dropped, Given}

-- ---- The item on the way is taken out.

abbrev pub fate_in_removal : (whole : Items) → (way at : List ℕ) → Fate
fate_in_removal whole way at = if goes whole way at then Dropped else Kept

-- ---- The item on the way gets this name.

abbrev pub given_if : Bool → Part → Fate
given_if is_it part = if is_it then Given part else Kept

-- an instance of a named type gets it where its type is the item on the way
abbrev pub fate_of_type : (whole : Items) → (way name at : List ℕ) → Of → Fate
fate_of_type whole way name at (Named type) = given_if (leads_to way (type_of whole at)) (OfType name)
fate_of_type whole way name at (Anonymous c) = Kept

-- what is not named after the item on the way is kept
abbrev pub fate_in_renaming : (whole : Items) → (way name at : List ℕ) → Item → Fate
fate_in_renaming whole way name at (Define n c) = given_if (same at way) (OfDefine name)
fate_in_renaming whole way name at (Instance s of) =
    if same at way then Given (OfShell (record s { name = name })) else fate_of_type whole way name at of
fate_in_renaming whole way name at (Dynamic target p v) =
    given_if (passes_by way (through whole at)) (OfTarget (renamed_target way name (through whole at) target))
fate_in_renaming whole way name at (Own p v) = Kept
fate_in_renaming whole way name at (Default p v) = Kept

-- an assignment, of which this is the path of its target if that passes the item on the way
abbrev pub fate_of_target : (way name : List ℕ) → (target : List (List ℕ)) → Option (List (List ℕ)) → Fate
fate_of_target way name target None = Kept
fate_of_target way name target (Some path) = Given (OfTarget (renamed_target way name (Some path) target))

-- ---- Either: the item on the way gets a name, or is taken out.

abbrev pub fate : (whole : Items) → (way : List ℕ) → (name : Option (List ℕ)) → (at : List ℕ) → Item → Fate
fate whole way None at x = fate_in_removal whole way at
fate whole way (Some name) at x = fate_in_renaming whole way name at x

-- ---- The patches.

abbrev pub is_dropped : Fate → Bool
is_dropped Kept = false
is_dropped Dropped = true
is_dropped (Given part) = false

-- of the item at this address, behind those of the items inside it; of one that goes only its own
abbrev pub item_patches : List ℕ → Fate → (inside : List Patch) → List Patch
item_patches at Kept inside = inside
item_patches at Dropped inside = Delete at ∷ []
item_patches at (Given part) inside = inside ++ Exchange at part ∷ []

-- of the items from number n on of the body at b, the last item's first
abbrev pub fate_patches : (List ℕ → Item → Fate) → (b : List ℕ) → (n : ℕ) → Items → List Patch
fate_patches fate_at b n no_items = []
fate_patches fate_at b n (plain p rest) =
    fate_patches fate_at b (suc n) rest ++ item_patches (b ++ n ∷ []) (fate_at (b ++ n ∷ []) (plain_item p)) []
fate_patches fate_at b n (holder h body rest) =
    fate_patches fate_at b (suc n) rest
    ++ item_patches (b ++ n ∷ []) (fate_at (b ++ n ∷ []) (holder_item h body)) (fate_patches fate_at (b ++ n ∷ []) 0 body)
