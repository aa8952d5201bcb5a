use Rattle.std.proofs.Common.{◌≡◌, ◌++◌, ◌∙◌, append_assoc, codes, drop, flat_map, map, rules, string_bytes}
use Rattle.std.proofs.lemmas.Result.{on_ok_weaker}
use Rattle.rdl_diff.specs.Alike.{behind_text}
use Rattle.rdl_diff.specs.Seen.{path_seen}
use Rattle.rdl_diff.proofs.Listed.{paths_all}
use Rattle.rdl_diff.proofs.inner.push_alike.Goals as goal

pub returns : goal.returns
returns c =
    let old = string_bytes c.args.text.now in
    let paths = c.args.paths.now in
    let d = c.args.depth in
    let mid : string_bytes c.push_str.new.self ≡ old ++ codes "*" = search rules in
    on_ok_weaker c.push_paths.result (λ is. is ∙ (λ i. mid i ++ paths_all d paths i) ∙ append_assoc old (codes "*") (flat_map (λ p. codes " " ++ behind_text (drop d p)) (map path_seen paths))) c.push_paths.ensures
