-- The numbers of an address that a patch holds.
-- own: how the code holds addresses.
use Rattle.std.specs.Prelude.{ℕ, List, [], ◌∷◌, ◌++◌, Option, Some, None}
use Rattle.rdl_tree.specs.declared.patch_address.Held.{Held}
use Rattle.rdl_tree.specs.declared.patch_address.Held.TheVariants.{OfNone, OfRoot, Inside}

abbrev pub held_numbers : Held → List ℕ
held_numbers OfNone = []
held_numbers (OfRoot number) = number ∷ []
held_numbers (Inside body number) = body.value ++ number ∷ []

-- the number of the item of the root inside which an item stands
abbrev pub root_around : List ℕ → Option ℕ
root_around [] = None
root_around (i ∷ []) = None
root_around (i ∷ j ∷ at) = Some i
