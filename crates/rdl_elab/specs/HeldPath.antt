-- The addresses of a path that is held.
-- own: how the code holds them.
use Rattle.std.specs.Prelude.{ℕ, nat_eq, Bool, false, List, [], ◌∷◌, Option, Some, None}
use Rattle.std.specs.Cmp.Lexicographic.{pointwise}
use Rattle.rdl_elab.specs.declared.walk.instance_path.HeldPath.{HeldPath}
use Rattle.rdl_elab.specs.declared.walk.instance_path.HeldPath.TheVariants.{Two, Shared}

abbrev pub held_path : HeldPath → List (List ℕ)
held_path (Two around first below second) = (around ∷ first ∷ []) ∷ (below ∷ second ∷ []) ∷ []
held_path (Shared path) = path.value.items

-- whether this is the address of an instance
abbrev pub has_at : List ℕ → Option (List ℕ) → Bool
has_at a None = false
has_at a (Some b) = pointwise nat_eq b a
