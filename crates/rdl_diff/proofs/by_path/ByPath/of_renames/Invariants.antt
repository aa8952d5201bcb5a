use Rattle.std.proofs.Common.{◌≡◌, ℕ, List, take, option_map}
use Rattle.indexmap.specs.IndexMap.{get_by}
use Rattle.rdl_diff.specs.ByPath.{is_key}
use Rattle.rdl_diff.specs.Paths.{last_by, path}
use Rattle.rdl_diff.proofs.by_path.ByPath.of_renames.Given as goal

abbrev pub invariant-renames : goal.invariant-renames
invariant-renames l = (p : List (List ℕ)) → option_map (λ r. r.now) (get_by (is_key p) l.by_path) ≡ last_by (λ x. path x.old.now) (λ x. x.new.now) p (take l.rename-index l.renames)
