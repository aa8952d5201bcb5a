use Rattle.std.proofs.Common.{◌≡◌, ◌<◌, ◌≤◌, length}
use Rattle.rdl_elab.proofs.Onward.{ChainedFrom}
use Rattle.rdl_elab.proofs.walk.reaches.put_all.Given as goal

abbrev pub invariant-assignments : goal.invariant-assignments
invariant-assignments l = record {
  chained : ChainedFrom l.number l.heads l.links l.reaching;
  within : l.number ≤ length l.reaching;
  slots : 0 < length l.heads;
  long : length l.links ≡ length l.reaching;
}

abbrev pub decreases-assignments : goal.decreases-assignments
decreases-assignments l = l.number
