use Rattle.std.proofs.Common.{◌≡◌, ◌++◌, ◌+◌, ◌≤◌, length}
use Rattle.std.specs.Prelude.{reverse, vec_capacity}
use Rattle.rdl_tree.specs.Way.{backs}
use Rattle.rdl_tree.proofs.walk.step_patches.Given as goal

abbrev pub invariant-steps : goal.invariant-steps
invariant-steps l = record {
  same : l.room.items ++ backs (reverse l.steps.items) ≡ backs (reverse l.initial.steps.items);
  room : length l.room.items + length l.steps.items ≤ vec_capacity l.room;
}

abbrev pub decreases-steps : goal.decreases-steps
decreases-steps l = length l.steps.items
