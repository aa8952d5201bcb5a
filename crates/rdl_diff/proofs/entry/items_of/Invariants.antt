use Rattle.std.proofs.Common.{◌≡◌, map}
use Rattle.rdl_diff.specs.Alike.{item}
use Rattle.rdl_diff.specs.Seen.{items_seen, line_seen}
use Rattle.rdl_diff.proofs.entry.items_of.Given as goal

abbrev pub invariant-lines : goal.invariant-lines
invariant-lines l = items_seen l.items.items ≡ map (λ x. item (line_seen x)) l.yielded
