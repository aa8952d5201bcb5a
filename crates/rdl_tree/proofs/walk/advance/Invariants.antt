use Rattle.std.proofs.Common.{◌+◌, ◌≤◌, length}
use Rattle.std.specs.Prelude.{reverse, vec_capacity}
use Rattle.rdl_tree.specs.Walk.{IsUnderWay}
use Rattle.rdl_tree.proofs.walk.advance.Given as goal

abbrev pub invariant-patches : goal.invariant-patches
invariant-patches l = record {
  way : IsUnderWay l.steps.items l.description.items l.initial.description.items l.patches.items (reverse l.initial.patches.items);
  room : length l.patches.items + length l.steps.items ≤ vec_capacity l.patches;
  steps : length l.patches.items + length l.steps.items ≤ vec_capacity l.steps;
}

abbrev pub decreases-patches : goal.decreases-patches
decreases-patches l = length l.patches.items
