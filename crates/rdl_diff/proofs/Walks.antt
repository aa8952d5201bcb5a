-- Steps along paths and along the rows of a map.
use Rattle.std.proofs.Common.{◌≡◌, ℕ, List, [], ◌∷◌, ◌++◌, Option, sym, ap, ◌∙◌, append_assoc}
use denote.Ref.{Bor}
use Rattle.rdl_elab.specs.declared.row.Row.{Row}
use Rattle.rdl_diff.specs.ByPath.{texts}
use Rattle.rdl_diff.specs.Renames.{lone, lone_if, path_or, walked}

-- one name more
pub one_walked : (renamed : List (List ℕ) → Option Row) (before after : List (List ℕ)) (rest behind : List (Bor (List ℕ))) (name : Bor (List ℕ)) (all : List (List ℕ)) → rest ≡ name ∷ behind
    → after ≡ path_or (before ++ name.now ∷ []) (renamed (before ++ name.now ∷ [])) → walked renamed before (texts rest) ≡ all → walked renamed after (texts behind) ≡ all
one_walked renamed before after rest behind name all e step h =
    ap (λ (front : List (List ℕ)). walked renamed front (texts behind)) step
    ∙ ap (λ (names : List (Bor (List ℕ))). walked renamed before (texts names)) (sym e)
    ∙ h

-- one row more
pub one_lone : (at : Row → List (List ℕ)) (found : List (List ℕ) → Option Row) (before after : List (Row × List Row)) (rest behind : List Row) (row : Row) (names : List (List ℕ)) (all : List (Row × List Row)) → rest ≡ row ∷ behind → names ≡ at row
    → after ≡ before ++ lone_if (found names) row behind → before ++ lone at found rest ≡ all → after ++ lone at found behind ≡ all
one_lone at found before after rest behind row names all e is step h =
    ap (λ (xs : List (Row × List Row)). xs ++ lone at found behind) (step ∙ ap (λ ns. before ++ lone_if (found ns) row behind) is)
    ∙ append_assoc before (lone_if (found (at row)) row behind) (lone at found behind)
    ∙ ap (λ (rows : List Row). before ++ lone at found rows) (sym e)
    ∙ h
