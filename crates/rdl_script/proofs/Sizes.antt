-- Words that are no sizes.
use Rattle.std.proofs.Common.{◌≡◌, ◌<◌, List, [], ◌∷◌, length, None, refl, arith}
use Rattle.rdl_text.specs.Word.{Word}
use Rattle.rdl_parse.specs.Symbol.{symbols}
use Rattle.rdl_script.specs.Operands.{sizes_by}

pub no_sizes : (ws : List Word) → 0 < length ws → length ws < 3 → sizes_by (symbols ws) ≡ None
no_sizes [] some few = absurd (omega (arith, some))
no_sizes (v ∷ []) some few = refl
no_sizes (v ∷ w ∷ []) some few = refl
no_sizes (v ∷ w ∷ x ∷ ws) some few = absurd (omega (arith, few))
