-- The numbers of an address that is held.
-- own: how the code holds addresses.
use Rattle.std.specs.Prelude.{ℕ, List, [], ◌∷◌}
use Rattle.rdl_elab.specs.declared.walk.shared.HeldAddress.{HeldAddress}
use Rattle.rdl_elab.specs.declared.walk.shared.HeldAddress.TheVariants.{OfRoot, Shared}

abbrev pub held_numbers : HeldAddress → List ℕ
held_numbers (OfRoot number) = number ∷ []
held_numbers (Shared address) = address.value
