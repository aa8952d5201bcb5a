use Rattle.std.proofs.Common.{◌+◌, ◌≤◌, length}
use Rattle.std.specs.Prelude.{vec_capacity}
use Rattle.rdl_tree.specs.Gap.{GoesOnWithin}
use Rattle.rdl_tree.proofs.run.advance_within.Given as goal

abbrev pub invariant-patches : goal.invariant-patches
invariant-patches l = record {
  way : GoesOnWithin l.holder l.initial.steps.items l.steps.items l.initial.patches.items l.patches.items l.initial.gap l.gap;
  less : length l.patches.items ≤ length l.initial.patches.items;
  room : length l.patches.items + length l.steps.items ≤ vec_capacity l.patches;
  steps : length l.patches.items + length l.steps.items ≤ vec_capacity l.steps;
}

abbrev pub decreases-patches : goal.decreases-patches
decreases-patches l = length l.patches.items
