use Rattle.std.proofs.Common.{◌≡◌, ◌≤◌, drop, length}
use Rattle.rdl_marks.specs.Marks.{no_marks}
use Rattle.rdl_marks.specs.Noted.{all_noted}
use Rattle.rdl_marks.proofs.changes.marks_along.Given as goal

abbrev pub invariant-patches : goal.invariant-patches
invariant-patches l = record {
  noted : l.marks ≡ all_noted (drop l.number l.backs) no_marks;
  within : l.number ≤ length l.backs;
}

abbrev pub decreases-patches : goal.decreases-patches
decreases-patches l = l.number
