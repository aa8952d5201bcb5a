use Rattle.std.proofs.Common.{◌≡◌}
use Rattle.rdl_diff.specs.Alike.{told_above, told_once}
use Rattle.rdl_diff.specs.Seen.{items_seen}
use Rattle.rdl_diff.proofs.once.told_once.Given as goal

abbrev pub invariant-depths : goal.invariant-depths
invariant-depths l = told_above l.depth (items_seen l.told.items) ≡ told_once (items_seen l.fn.items.items)

abbrev pub decreases-depths : goal.decreases-depths
decreases-depths l = l.depth
