-- Which row stands at a path.
use Rattle.std.proofs.Common.{◌≡◌, inl, inr, ℕ, Bool, true, false, List, [], ◌∷◌, Option, Some, None, refl, sym, ap, ◌∙◌, subst, if◌then◌else◌}
use Rattle.std.specs.Option.{option_or}
use Rattle.rdl_elab.specs.declared.row.Row.{Row}
use Rattle.rdl_diff.specs.Paths.{path, same_path, row_at}
use Rattle.rdl_diff.specs.SameRows.{HaveOwnPaths, IsAmong}
use Rattle.rdl_diff.proofs.Lookups.{same_path-Decides}

-- where each has its own path, a row stands at its path
pub found-own : (rows : List Row) (r : Row) → HaveOwnPaths rows → IsAmong r rows → row_at (path r) rows ≡ Some r
found-own [] r own h = absurd h
found-own (x ∷ xs) r own (inl e) =
    let here : row_at (path x) (x ∷ xs) ≡ Some x = λ i. option_or (own.0 i) (if (same_path-Decides (path x) (path x)).1 refl i then Some x else None) in
    subst (λ (z : Row). row_at (path z) (x ∷ xs) ≡ Some z) (sym e) here
found-own (x ∷ xs) r own (inr h) = ap (λ (o : Option Row). option_or o (if same_path (path r) (path x) then Some x else None)) (found-own xs r own.1 h)

-- what stands at a path is among the rows, and has it
pub at-among : (p : List (List ℕ)) (rows : List Row) (s : Row) → row_at p rows ≡ Some s → IsAmong s rows × (p ≡ path s)
at-among p [] s e = cc
at-among p (x ∷ xs) s e = by (row_at p xs) refl (same_path p (path x)) refl e (at-among p xs s)
  where
    by : (o : Option Row) → row_at p xs ≡ o → (b : Bool) → same_path p (path x) ≡ b → option_or o (if b then Some x else None) ≡ Some s → (row_at p xs ≡ Some s → IsAmong s xs × (p ≡ path s)) → IsAmong s (x ∷ xs) × (p ≡ path s)
    by (Some t) f b g e rest = let h = rest (f ∙ e) in (inr h.0, h.1)
    by None f true g e rest = let same : x ≡ s = cc in (inl (sym same), (same_path-Decides p (path x)).0 g ∙ ap path same)
    by None f false g e rest = cc

-- something stands at the path of each row
pub record Found (p : List (List ℕ)) (rows : List Row) : Type 0 where
  pub row : Row
  pub at : row_at p rows ≡ Some row

pub among-at : (rows : List Row) (r : Row) → IsAmong r rows → Found (path r) rows
among-at [] r h = absurd h
among-at (x ∷ xs) r (inr h) =
    let f = among-at xs r h in
    record { row = f.row; at = ap (λ (o : Option Row). option_or o (if same_path (path r) (path x) then Some x else None)) f.at }
among-at (x ∷ xs) r (inl e) = by (row_at (path r) xs) refl
  where
    by : (o : Option Row) → row_at (path r) xs ≡ o → Found (path r) (x ∷ xs)
    by (Some t) f = record { row = t; at = ap (λ (o : Option Row). option_or o (if same_path (path r) (path x) then Some x else None)) f }
    by None f = record { row = x; at = λ i. option_or (f i) (if (same_path-Decides (path r) (path x)).1 (ap path e) i then Some x else None) }
