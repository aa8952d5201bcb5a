use Rattle.std.proofs.Common.{◌≡◌, ◌≤◌, length, drop, Some}
use Rattle.std.specs.Prelude.{option_copied}
use Rattle.rdl_tree.specs.Find.{walk}
use Rattle.rdl_tree.proofs.Ways.{after}
use Rattle.rdl_tree.proofs.description.Description.find.Given as goal

abbrev pub invariant-loop-segment : goal.invariant-loop-segment
invariant-loop-segment l = record {
  way : walk l.segment-items (Some l.self.items) ≡ after l.address (walk (drop l.segment-index l.segment-items) (option_copied l.body));
  far : length l.address ≡ l.segment-index;
  short : length l.segment-items ≤ 17;
}
