-- What goes with an item that is taken out: the assignments, in any body, whose target passes it.
-- A definition to which a reference leads stays.
-- own: SystemRDL 2.0 has no edits.
use Rattle.std.specs.Prelude.{ℕ, suc, ◌||◌, if◌then◌else◌, Bool, List, [], ◌∷◌, ◌++◌, Result, Ok, Err}
use Rattle.std.specs.List.{list_any}
use Rattle.rdl_tree.specs.Items.{Items, no_items, plain, holder}
use Rattle.rdl_scope.specs.Types.{type_of}
use Rattle.rdl_scope.specs.Target.{through}
use Rattle.rdl_rewrite.specs.Addresses.{same, leads_to, passes_by, addresses}
use Rattle.rdl_rewrite.specs.declared.edit.PatchRefusal.{PatchRefusal}
use Rattle.rdl_rewrite.specs.declared.edit.PatchRefusal.TheVariants.{InUse}

-- the type of some instance is the item
abbrev pub is_in_use : (whole : Items) → (way : List ℕ) → Bool
is_in_use whole way = list_any (λ at. leads_to way (type_of whole at)) (addresses [] 0 whole)

-- the item itself, and every assignment whose target passes it
abbrev pub goes : (whole : Items) → (way : List ℕ) → (at : List ℕ) → Bool
goes whole way at = same at way || passes_by way (through whole at)

-- the items from number n on of the body at b, in every body without those that go
abbrev pub staying : (List ℕ → Bool) → List ℕ → ℕ → Items → Items
staying out b n no_items = no_items
staying out b n (plain p rest) = if out (b ++ n ∷ []) then staying out b (suc n) rest else plain p (staying out b (suc n) rest)
staying out b n (holder h body rest) =
    if out (b ++ n ∷ []) then staying out b (suc n) rest
    else holder h (staying out (b ++ n ∷ []) 0 body) (staying out b (suc n) rest)

abbrev pub removed : (whole : Items) → (way : List ℕ) → Result Items PatchRefusal
removed whole way = if is_in_use whole way then Err InUse else Ok (staying (goes whole way) [] 0 whole)
