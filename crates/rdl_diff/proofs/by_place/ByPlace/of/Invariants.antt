use Rattle.std.proofs.Common.{◌≡◌, ℕ, List, take, option_map, bytes_eq, string_bytes}
use Rattle.indexmap.specs.IndexMap.{get_by}
use Rattle.rdl_diff.specs.ByPlace.{all_standing, standing}
use Rattle.rdl_diff.specs.Renames.{lone_at}
use Rattle.rdl_diff.proofs.by_place.ByPlace.of.Given as goal

abbrev pub invariant-rows : goal.invariant-rows
invariant-rows l = (t : List ℕ) → option_map standing (get_by (λ k. bytes_eq t (string_bytes k)) l.by_place) ≡ lone_at t (all_standing (take l.lone-index l.rows))
