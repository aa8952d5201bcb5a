use Rattle.std.proofs.Common.{◌≡◌, ◌++◌, flat_map}
use Rattle.rdl_diff.specs.Alike.{group_items}
use Rattle.rdl_diff.specs.Seen.{group_seen, items_seen}
use Rattle.rdl_diff.proofs.once.push_groups.Given as goal

abbrev pub invariant-groups : goal.invariant-groups
invariant-groups l = items_seen l.told.items ≡ items_seen l.initial.told.items ++ flat_map (λ g. group_items (group_seen g)) l.yielded
