-- What is known so far, and what is found behind, is what is found in all.
use Rattle.std.proofs.Common.{◌≡◌, ◌≤◌, ◌-◌, length, drop}
use Rattle.rdl_source.specs.Gap.{begun, scan_from}
use Rattle.rdl_source.proofs.Scanning.{InOrder}
use Rattle.rdl_source.proofs.gap.split_gap.Given as goal

abbrev pub invariant-pieces : goal.invariant-pieces
invariant-pieces l = record {
  within : l.at ≤ length l.gap;
  same : scan_from 0 l.at l.scan (drop l.at l.gap) ≡ scan_from 0 0 (begun l.fn.left) l.gap;
  order : InOrder l.at l.scan;
}

abbrev pub decreases-pieces : goal.decreases-pieces
decreases-pieces l = length l.gap - l.at
