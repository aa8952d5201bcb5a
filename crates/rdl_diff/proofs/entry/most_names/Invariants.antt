use Rattle.std.proofs.Common.{◌≡◌, length}
use Rattle.rdl_diff.specs.Alike.{most_from, most_names}
use Rattle.rdl_diff.specs.Seen.{items_seen}
use Rattle.rdl_diff.proofs.entry.most_names.Given as goal

abbrev pub invariant-items : goal.invariant-items
invariant-items l = most_from l.most (items_seen l.rest) ≡ most_names (items_seen l.fn.items)

abbrev pub decreases-items : goal.decreases-items
decreases-items l = length l.rest
