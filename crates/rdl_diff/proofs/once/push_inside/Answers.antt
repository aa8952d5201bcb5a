use Rattle.std.proofs.Common.{◌≡◌, ◌++◌, [], ap, sym, ◌∙◌, flat_map, length, rules}
use Rattle.std.proofs.lemmas.List.{length-map}
use Rattle.std.proofs.lemmas.Result.{on_ok_weaker}
use Rattle.rdl_diff.specs.Alike.{group_items, groups}
use Rattle.rdl_diff.specs.Seen.{item_seen, items_seen}
use Rattle.rdl_diff.proofs.Cuts.{groups_flat, one_inside}
use Rattle.rdl_diff.proofs.once.push_inside.Goals as goal

pub returns-then-len-eq1 : goal.returns-then-len-eq1
returns-then-len-eq1 c =
    let items = c.args.items.items in
    let one : length items ≡ 1 = search rules in
    on_ok_weaker c.push_items.result (λ is. is ∙ ap (λ t. items_seen c.args.told.now.items ++ t) (sym (one_inside c.args.depth (items_seen items) (length-map items item_seen ∙ one)))) c.push_items.ensures

pub returns : goal.returns
returns c =
    let d = c.args.depth in
    let is_grouped = c.in_ok-groups.ensures ∙ ap (groups d []) c.in_ok-runs.ensures in
    on_ok_weaker c.push_groups.result (λ is. is ∙ ap (λ t. items_seen c.args.told.now.items ++ t) (groups_flat c.in_ok-groups.groups.items ∙ ap (flat_map group_items) is_grouped)) c.push_groups.ensures
