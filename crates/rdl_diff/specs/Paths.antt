-- Rows by their paths. Own.
use Rattle.std.specs.Prelude.{ℕ, Bool, List, [], ◌∷◌, drop, Option, Some, None, bytes_eq, if◌then◌else◌}
use Rattle.std.specs.Cmp.Lexicographic.{pointwise}
use Rattle.std.specs.Option.{option_or}
use Rattle.rdl_elab.specs.declared.row.Row.{Row}

-- the path of a row: its names below the top
abbrev pub path : Row → List (List ℕ)
path r = drop 1 r.names

abbrev pub same_path : List (List ℕ) → List (List ℕ) → Bool
same_path p q = pointwise bytes_eq p q

-- of what has a path and a row, the row of this path, if there is one; of several the last
abbrev pub last_by : {A : Type 0} → (A → List (List ℕ)) → (A → Row) → List (List ℕ) → List A → Option Row
last_by at row p [] = None
last_by at row p (x ∷ xs) = option_or (last_by at row p xs) (if same_path p (at x) then Some (row x) else None)

abbrev pub row_at : List (List ℕ) → List Row → Option Row
row_at p rows = last_by path (λ r. r) p rows
