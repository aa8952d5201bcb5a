use Rattle.std.proofs.Common.{◌≡◌, ◌++◌, ◌+◌, ◌≤◌, length}
use Rattle.std.specs.Prelude.{reverse, vec_capacity}
use Rattle.rdl_tree.proofs.gap.pour.Given as goal

abbrev pub invariant-items : goal.invariant-items
invariant-items l = record {
  same : l.from.items ++ reverse l.to.items ≡ l.initial.from.items ++ reverse l.initial.to.items;
  count : length l.from.items + length l.to.items ≡ length l.initial.from.items + length l.initial.to.items;
  left : l.left ≤ length l.from.items;
  room : length l.from.items + length l.to.items ≤ vec_capacity l.to;
  from_capacity : vec_capacity l.initial.from ≤ vec_capacity l.from;
  to_capacity : vec_capacity l.initial.to ≤ vec_capacity l.to;
}

abbrev pub decreases-items : goal.decreases-items
decreases-items l = length l.from.items
