use Rattle.std.proofs.Common.{◌≡◌, ◌++◌, ◌∷◌, ◌-◌, ◌∙◌, ap, codes, flat_map, length, take, drop, rules, string_bytes}
use Rattle.std.proofs.lemmas.Result.{on_ok_weaker}
use Rattle.rdl_list.specs.ListText.{path_text}
use Rattle.rdl_diff.specs.ByPath.{texts}
use Rattle.rdl_diff.specs.Seen.{path_seen}
use Rattle.rdl_diff.proofs.Listed.{first-split, listed_paths}
use Rattle.rdl_diff.proofs.names.push_listed_paths.Goals as goal

pub returns-in-len1-up : goal.returns-in-len1-up
returns-in-len1-up c =
    let xs = c.args.paths.now in
    let others = take (length xs - 1) (drop 1 xs) in
    let split : xs ≡ c.first-item.result ∷ others = first-split xs c.first-item.result c.in-len1-up.len_at_least (search rules) in
    on_ok_weaker c.push_first.result (λ is.
    is
    ∙ (λ i. string_bytes c.args.text.now ++ (path_text (texts (c.as_slice.ensures.value i)) ++ flat_map (λ p. codes ", " ++ path_text (path_seen p)) others))
    ∙ ap (λ t. string_bytes c.args.text.now ++ t) (listed_paths xs c.first-item.result others split)) c.push_first.ensures
