-- Which rows of two maps are one row that was renamed, and the paths that rows of the first map have in the second. Own.
use Rattle.std.specs.Prelude.{◌&&◌, ◌-◌, ℕ, Bool, List, [], ◌∷◌, ◌++◌, drop, take, length, Option, Some, None, bytes_eq, codes, nat_lt, if◌then◌else◌}
use Rattle.std.specs.Cmp.Lexicographic.{pointwise}
use Rattle.std.specs.List.{flat_map}
use Rattle.std.specs.Option.{option_or}
use Rattle.rdl_elab.specs.declared.row.Row.{Row}
use Rattle.rdl_write.specs.Texts.{kind_text}
use Rattle.rdl_diff.specs.Paths.{path, same_path, last_by, row_at}
use Rattle.rdl_diff.specs.Told.{told, told_text}
use Rattle.rdl_diff.specs.declared.what.What.TheVariants as what

-- ---- What was renamed.

-- the rows of a map that aren't found under their paths, each with those behind it
abbrev pub lone_if : (found : Option Row) → Row → (behind : List Row) → List (Row × List Row)
lone_if None r rs = (r, rs) ∷ []
lone_if (Some s) r rs = []

abbrev pub lone : (at : Row → List (List ℕ)) → (found : List (List ℕ) → Option Row) → (rows : List Row) → List (Row × List Row)
lone at found [] = []
lone at found (r ∷ rs) = lone_if (found (at r)) r rs ++ lone at found rs

-- where a row stands, as a text: the names around it, its kind, and its offset or its bits
abbrev pub around : List (List ℕ) → List ℕ
around p = flat_map (λ name. name ++ codes ".") (take (length p - 1) p)

unfoldable pub spot : Row → List ℕ
spot r = kind_text r.kind ++ codes " " ++ told_text (told what.Offset r) ++ codes " " ++ told_text (told what.Bits r)

abbrev pub place : Row → List ℕ
place r = around (path r) ++ spot r

-- the row that stands there; of several the last
abbrev pub lone_at : (place : List ℕ) → List (Row × List Row) → Option (Row × List Row)
lone_at t [] = None
lone_at t (x ∷ xs) = option_or (lone_at t xs) (if bytes_eq t (place x.0) then Some x else None)

-- what stands in a row with so many names, of the rows behind it: the names from that row on
abbrev pub inside : ℕ → List Row → List (List (List ℕ))
inside n [] = []
inside n (r ∷ rs) = if nat_lt n (length (path r)) then drop n (path r) ∷ inside n rs else []

-- the same names in both
abbrev pub have_same_inside : ℕ → (old new : List Row) → Bool
have_same_inside n old new = pointwise same_path (inside n old) (inside n new)

-- a row that is gone and one that is new in its place, each the only one there, with the same inside
abbrev pub is_renamed : (old last new : Row × List Row) → Bool
is_renamed old last new = same_path (path old.0) (path last.0) && have_same_inside (length (path old.0)) old.1 new.1

abbrev pub renamed_if : Row × List Row → (gone come : Option (Row × List Row)) → List (Row × Row)
renamed_if old (Some last) (Some new) = if is_renamed old last new then (old.0, new.0) ∷ [] else []
renamed_if _ _ _ = []

-- of the rows that only the first map has, and those that only the second has
abbrev pub renames_of : (gone come : List (Row × List Row)) → List (Row × Row)
renames_of gone come = flat_map (λ x. renamed_if x (lone_at (place x.0) gone) (lone_at (place x.0) come)) gone

abbrev pub renames : (old new : List Row) → List (Row × Row)
renames old new = renames_of (lone path (λ p. row_at p new) old) (lone path (λ p. row_at p old) new)

-- ---- The paths in the second map.

-- the row that the one of this path is now, if it was renamed
abbrev pub renamed_to : List (Row × Row) → List (List ℕ) → Option Row
renamed_to xs p = last_by (λ x. path x.0) (λ x. x.1) p xs

abbrev pub path_or : List (List ℕ) → Option Row → List (List ℕ)
path_or p None = p
path_or p (Some r) = path r

-- name by name from the top, of which this front is walked: where what was walked was renamed, it goes on from there
abbrev pub walked : (renamed : List (List ℕ) → Option Row) → (front names : List (List ℕ)) → List (List ℕ)
walked renamed front [] = front
walked renamed front (name ∷ names) = walked renamed (path_or (front ++ name ∷ []) (renamed (front ++ name ∷ []))) names

abbrev pub new_path : List (Row × Row) → Row → List (List ℕ)
new_path [] r = path r
new_path (x ∷ xs) r = walked (renamed_to (x ∷ xs)) [] (path r)

-- the row of the first map that has this path in the second
abbrev pub row_from : List (Row × Row) → List (List ℕ) → List Row → Option Row
row_from xs p rows = last_by (new_path xs) (λ r. r) p rows
