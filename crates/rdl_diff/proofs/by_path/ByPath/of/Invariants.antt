use Rattle.std.proofs.Common.{◌≡◌, ℕ, List, take, option_map}
use Rattle.indexmap.specs.IndexMap.{get_by}
use Rattle.rdl_diff.specs.ByPath.{is_key, path_in}
use Rattle.rdl_diff.specs.Paths.{last_by}
use Rattle.rdl_diff.proofs.by_path.ByPath.of.Given as goal

abbrev pub invariant-rows : goal.invariant-rows
invariant-rows l = (p : List (List ℕ)) → option_map (λ r. r.now) (get_by (is_key p) l.by_path) ≡ last_by (path_in l.paths) (λ r. r) p (take l.row-index l.rows)
