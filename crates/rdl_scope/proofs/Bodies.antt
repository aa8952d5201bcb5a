-- The body that holds an item, and the item's number there.
use Rattle.std.proofs.Common.{◌≡◌, ℕ, suc, ◌-◌, List, [], ◌∷◌, length, take, get_or, refl, ap, ◌∙◌, arith}
use Rattle.rdl_scope.specs.Target.{body_of, number_of}

pub body_of-take : (a : List ℕ) → body_of a ≡ take (length a - 1) a
body_of-take [] = refl
body_of-take (k ∷ []) = refl
body_of-take (k ∷ j ∷ a) =
    let one : suc (length (j ∷ a) - 1) ≡ length (k ∷ j ∷ a) - 1 = omega arith in
    ap (λ x. k ∷ x) (body_of-take (j ∷ a)) ∙ ap (λ n. take n (k ∷ j ∷ a)) one

pub number_of-last : (a : List ℕ) → number_of a ≡ get_or a (length a - 1) 0
number_of-last [] = refl
number_of-last (k ∷ []) = refl
number_of-last (k ∷ j ∷ a) =
    let one : suc (length (j ∷ a) - 1) ≡ length (k ∷ j ∷ a) - 1 = omega arith in
    number_of-last (j ∷ a) ∙ ap (λ n. get_or (k ∷ j ∷ a) n 0) one

pub ruleset ends = (body_of-take, number_of-last)
