use Rattle.std.proofs.Common.{◌≡◌, ◌++◌, ◌∷◌, ◌-◌, ◌∙◌, ap, length, take, drop, rules, string_bytes}
use Rattle.std.proofs.lemmas.Result.{on_ok_weaker}
use Rattle.rdl_diff.proofs.Listed.{first-split, listed_changes}
use Rattle.rdl_diff.proofs.plain.push_changes.Goals as goal

pub returns-in-len1-up : goal.returns-in-len1-up
returns-in-len1-up c =
    let xs = c.args.changes.now in
    let others = take (length xs - 1) (drop 1 xs) in
    let split : xs ≡ c.first-item.result ∷ others = first-split xs c.first-item.result c.in-len1-up.len_at_least (search rules) in
    on_ok_weaker c.push_first.result (λ is. is ∙ ap (λ t. string_bytes c.args.text.now ++ t) (listed_changes xs c.first-item.result others split)) c.push_first.ensures
