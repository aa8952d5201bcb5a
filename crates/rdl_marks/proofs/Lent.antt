-- The patches that lead back, from the last one on.
use Rattle.std.proofs.Common.{◌≡◌, ℕ, zero, suc, ◌<◌, List, [], ◌∷◌, drop, length, Some, None, ap, sym, ◌∙◌, arith}
use Rattle.std.specs.Prelude.{slice_get}
use Rattle.rdl_tree.specs.declared.patch.Patch.{Patch}

drop-at : (ps : List Patch) (n : ℕ) (p : Patch) → slice_get ps n ≡ Some p → drop n ps ≡ p ∷ drop (suc n) ps
drop-at [] n p e = absurd cc
drop-at (q ∷ ps) zero p e = cc
drop-at (q ∷ ps) (suc n) p e = drop-at ps n p e

-- those from one patch on
pub drop-before : (ps : List Patch) (k n : ℕ) (p : Patch) → n ≡ suc k → slice_get ps k ≡ Some p → drop k ps ≡ p ∷ drop n ps
drop-before ps k n p h e = drop-at ps k p e ∙ ap (λ m. p ∷ drop m ps) (sym h)

pub some-within : (ps : List Patch) (n : ℕ) → n < length ps → slice_get ps n ≡ None → ⊥
some-within [] n h e = absurd (omega (arith, h))
some-within (q ∷ ps) zero h e = cc
some-within (q ∷ ps) (suc n) h e = some-within ps n (omega (arith, h)) e
