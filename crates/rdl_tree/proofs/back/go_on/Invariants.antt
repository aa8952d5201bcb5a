use Rattle.std.proofs.Common.{◌+◌, ◌≤◌, length}
use Rattle.std.specs.Prelude.{vec_capacity}
use Rattle.rdl_tree.specs.Way.{held_at}
use Rattle.rdl_tree.specs.Gap.{around, ComesBackWithin}
use Rattle.rdl_tree.proofs.back.go_on.Given as goal

abbrev pub invariant-steps : goal.invariant-steps
invariant-steps l = record {
  way : ComesBackWithin l.holder (held_at l.holder (vec_capacity l.initial.front)) (held_at l.holder (vec_capacity l.front)) l.initial.steps.items l.steps.items l.initial.patches.items l.patches.items
      (around l.initial.front.items l.initial.behind.items) (around l.front.items l.behind.items);
  room : length l.front.items + length l.behind.items ≤ vec_capacity l.front;
  less : length l.steps.items ≤ length l.initial.steps.items;
  patches : length l.patches.items + length l.steps.items ≤ vec_capacity l.patches;
}

abbrev pub decreases-steps : goal.decreases-steps
decreases-steps l = length l.steps.items
