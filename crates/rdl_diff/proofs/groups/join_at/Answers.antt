use Rattle.std.proofs.Common.{◌≡◌, ◌<◌, ◌≤◌, ap, ◌∙◌, length, refl, rules, Some, slice_get}
use Rattle.std.proofs.lemmas.Option.{slice_get_read}
use Rattle.std.proofs.lemmas.Result.{on_ok_weaker}
use Rattle.rdl_diff.specs.Grouped.{groups_seen}
use Rattle.rdl_diff.specs.Seen.{items_seen, path_seen}
use Rattle.rdl_diff.proofs.Joining.{groups-more, groups-set}
use Rattle.rdl_diff.proofs.groups.join_at.Goals as goal

pub returns-in-Some : goal.returns-in-Some
returns-in-Some c =
    let all = c.args.groups.now.items in
    let k = c.args.number in
    let within : k < length all = search rules in
    let there : slice_get all k ≡ Some c.in-Some.group.now = slice_get_read all (length all) k c.in-Some.group.now refl within c.in-Some.ensures.value in
    on_ok_weaker c.push_path.result (λ is. groups-set all k c.in-Some.group.now c.push_path.new.group (path_seen c.args.path) (items_seen c.args.items.items) there is) c.push_path.ensures

pub returns : goal.returns
returns c =
    let all = c.args.groups.now.items in
    let k = c.args.number in
    let behind : length all ≤ k = search rules in
    ap groups_seen c.in_ok-push.ensures.items
    ∙ groups-more all k c.in_ok-group_of.field-0 (path_seen c.args.path) (items_seen c.args.items.items) behind c.in_ok-group_of.ensures
