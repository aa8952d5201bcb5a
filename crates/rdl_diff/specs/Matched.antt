-- Which rows of a first map stand for which of a second.
-- own: how they are matched.
use Rattle.std.specs.Prelude.{◌≡◌, ℕ, List, [], Option}
use Rattle.rdl_elab.specs.declared.row.Row.{Row}
use Rattle.rdl_diff.specs.ByPath.{pairs, row_under}
use Rattle.rdl_diff.specs.ByPlace.{all_standing}
use Rattle.rdl_diff.specs.Paths.{path, last_by, row_at}
use Rattle.rdl_diff.specs.Renames.{lone, new_path, renamed_to, renames, row_from, walked}
use Rattle.rdl_diff.specs.declared.matched.Matched.{Matched}
use Rattle.rdl_diff.specs.declared.rename.Rename.{Rename}

-- these were renamed, which may be none: the rows of the first map by the paths to which names of these lead
pub record MatchesBeside (xs : List Rename) (old : List Row) (found : List (List ℕ) → Option Row) (m : Matched) : Type 0 where
  pub held : m.renames.items ≡ xs
  pub gone : all_standing m.gone.items ≡ lone (λ r. walked (renamed_to (pairs xs)) [] (path r)) found old
  pub under : (p : List (List ℕ)) → row_under m.old_by_path p ≡ last_by (λ r. walked (renamed_to (pairs xs)) [] (path r)) (λ r. r) p old

pub record IsMatched (old new : List Row) (m : Matched) : Type 0 where
  pub held : pairs m.renames.items ≡ renames old new
  pub gone : all_standing m.gone.items ≡ lone (new_path (renames old new)) (λ p. row_at p new) old
  pub under : (p : List (List ℕ)) → row_under m.old_by_path p ≡ row_from (renames old new) p old
