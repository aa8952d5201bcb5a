use Rattle.std.proofs.Common.{◌++◌, ◌+◌, ◌≤◌, length}
use Rattle.std.specs.Prelude.{reverse, vec_capacity}
use Rattle.rdl_tree.specs.Patch.{image, inverses}
use Rattle.rdl_tree.specs.Way.{none_held, backs}
use Rattle.rdl_tree.specs.Walk.{IsOnWay}
use Rattle.rdl_tree.proofs.walk.steps_back.Given as goal

abbrev pub invariant-steps : goal.invariant-steps
invariant-steps l = record {
  way : IsOnWay none_held l.steps.items l.description.items
      (image (backs (reverse l.initial.steps.items)) l.initial.description.items) l.room.items
      (inverses (backs (reverse l.initial.steps.items)) l.initial.description.items ++ reverse l.initial.room.items);
  room : length l.room.items + length l.steps.items ≤ vec_capacity l.room;
}

abbrev pub decreases-steps : goal.decreases-steps
decreases-steps l = length l.steps.items
