use Rattle.std.proofs.Common.{◌≡◌, ◌++◌, flat_map, take, codes, string_bytes}
use Rattle.std.proofs.Common.{drop}
use Rattle.rdl_diff.specs.Alike.{behind_text}
use Rattle.rdl_diff.specs.Seen.{path_seen}
use Rattle.rdl_diff.proofs.inner.push_paths.Given as goal

abbrev pub invariant-paths : goal.invariant-paths
invariant-paths l = string_bytes l.text ≡ string_bytes l.initial.text ++ flat_map (λ p. codes " " ++ behind_text (drop l.depth (path_seen p))) (take l.path-index l.paths)
