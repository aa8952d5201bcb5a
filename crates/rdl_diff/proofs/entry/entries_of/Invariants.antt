use Rattle.std.proofs.Common.{◌≡◌, map}
use Rattle.rdl_diff.specs.Seen.{entry_seen, items_seen}
use Rattle.rdl_diff.proofs.entry.entries_of.Given as goal

abbrev pub invariant-items : goal.invariant-items
invariant-items l = map entry_seen l.entries.items ≡ map (λ i. i.entry) (items_seen l.yielded)
