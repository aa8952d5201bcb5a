use Rattle.std.proofs.Common.{◌≡◌, ◌++◌, flat_map, take, codes, string_bytes}
use Rattle.rdl_list.specs.ListText.{path_text}
use Rattle.rdl_diff.specs.Seen.{path_seen}
use Rattle.rdl_diff.proofs.names.push_other_paths.Given as goal

abbrev pub invariant-paths : goal.invariant-paths
invariant-paths l = string_bytes l.text ≡ string_bytes l.initial.text ++ flat_map (λ p. codes ", " ++ path_text (path_seen p)) (take l.path-index l.paths)
