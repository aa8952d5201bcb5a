use Rattle.std.proofs.Common.{◌≡◌, map, take}
use Rattle.serde_json.specs.View.{view}
use Rattle.serde_json.specs.Data.{string}
use Rattle.rdl_list.specs.ListText.{path_text}
use Rattle.rdl_diff.specs.Seen.{path_seen}
use Rattle.rdl_diff.proofs.json.paths_json.Given as goal

abbrev pub invariant-paths : goal.invariant-paths
invariant-paths l = map view l.list.items ≡ map (λ p. string (path_text (path_seen p))) (take l.path-index l.paths)
