-- A list the other way round.
use Rattle.std.proofs.Common.{◌≡◌, List, [], ◌∷◌, ◌++◌, ap, ◌∙◌}
use Rattle.std.specs.Prelude.{reverse}
use Rattle.std.proofs.lemmas.List.{reverse-append}

-- the last of a list is the first of it the other way round
pub reverse-last : {X : Type 0} (old rest : List X) (x : X) → old ≡ rest ++ x ∷ [] → reverse old ≡ x ∷ reverse rest
reverse-last old rest x e = ap reverse e ∙ reverse-append rest (x ∷ [])
