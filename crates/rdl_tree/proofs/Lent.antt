-- The patches of steps, by their numbers.
use Rattle.std.proofs.Common.{◌≡◌, ℕ, zero, suc, List, [], ◌∷◌, length, ap, refl, ◌∙◌}
use Rattle.std.specs.Prelude.{reverse, slice_get, option_map}
use Rattle.std.proofs.lemmas.List.{length-reverse}
use Rattle.rdl_tree.specs.Way.{backs}
use Rattle.rdl_tree.specs.declared.way.Step.{Step}

length-backs : (ss : List Step) → length (backs ss) ≡ length ss
length-backs [] = refl
length-backs (s ∷ ss) = ap suc (length-backs ss)

-- there are as many as steps
pub length-back : (ss : List Step) → length (backs (reverse ss)) ≡ length ss
length-back ss = length-backs (reverse ss) ∙ length-reverse ss

-- the patch of this number is that of the step
pub get-back : (ss : List Step) (n : ℕ) → slice_get (backs ss) n ≡ option_map (λ (s : Step). s.back) (slice_get ss n)
get-back [] n = refl
get-back (s ∷ ss) zero = refl
get-back (s ∷ ss) (suc n) = get-back ss n
