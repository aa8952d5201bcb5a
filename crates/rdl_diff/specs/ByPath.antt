-- Rows under their paths.
-- own: how they are looked up.
use Rattle.std.specs.Prelude.{ℕ, Bool, List, [], map, Option, option_map, bytes_eq}
use Rattle.std.specs.Cmp.Lexicographic.{pointwise}
use Rattle.std.specs.declared.alloc.Global.{Global}
use Rattle.std.specs.declared.vec.Vec.{Vec}
use denote.Ref.{Bor}
use Rattle.indexmap.specs.IndexMap.{get_by}
use Rattle.rdl_elab.specs.declared.row.Row.{Row}
use Rattle.rdl_diff.specs.Paths.{path}
use Rattle.rdl_diff.specs.Renames.{walked}
use Rattle.rdl_diff.specs.declared.by_path.ByPath.{ByPath}
use Rattle.rdl_diff.specs.declared.by_path.Paths.{Paths}
use Rattle.rdl_diff.specs.declared.by_path.Paths.TheVariants.{Own, New}
use Rattle.rdl_diff.specs.declared.rename.Rename.{Rename}

-- a path as the code holds it
abbrev pub Key : Type 0
Key = Vec (Bor (List ℕ)) Global

abbrev pub texts : List (Bor (List ℕ)) → List (List ℕ)
texts names = map (λ n. n.now) names

abbrev pub is_key : List (List ℕ) → Key → Bool
is_key p key = pointwise bytes_eq p (texts key.items)

-- the row under a path
abbrev pub row_under : ByPath → List (List ℕ) → Option Row
row_under m p = option_map (λ r. r.now) (get_by (is_key p) m.rows)

-- under which path a row stands
abbrev pub path_in : Paths → Row → List (List ℕ)
path_in Own r = path r
path_in (New renamed) r = walked (row_under renamed) [] (path r)

-- the old and the new row of each rename
abbrev pub pair : Rename → Row × Row
pair x = (x.old.now, x.new.now)

abbrev pub pairs : List Rename → List (Row × Row)
pairs xs = map pair xs
