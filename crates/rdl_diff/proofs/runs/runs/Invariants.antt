use Rattle.std.proofs.Common.{◌≡◌, ◌++◌, map}
use Rattle.std.specs.Vec.Iter.{into_iter_items}
use Rattle.rdl_diff.specs.Alike.{runs, runs_from}
use Rattle.rdl_diff.specs.Seen.{items_seen}
use Rattle.rdl_diff.proofs.runs.runs.Given as goal

abbrev pub invariant-items : goal.invariant-items
invariant-items l = map (λ r. items_seen r.items) l.runs.items ++ runs_from l.count (items_seen l.run.items) (items_seen (into_iter_items l.item-iterator)) ≡ runs l.count (items_seen l.fn.items.items)
