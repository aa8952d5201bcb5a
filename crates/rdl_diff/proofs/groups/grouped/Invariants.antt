use Rattle.std.proofs.Common.{◌≡◌, [], map}
use Rattle.rdl_diff.specs.Alike.{groups}
use Rattle.rdl_diff.specs.Grouped.{AreKeyed, groups_seen}
use Rattle.rdl_diff.specs.Seen.{items_seen}
use Rattle.rdl_diff.proofs.groups.grouped.Given as goal

abbrev pub invariant-runs : goal.invariant-runs
invariant-runs l = record {
  keyed : AreKeyed l.depth l.groups;
  joined : groups_seen l.groups.groups.items ≡ groups l.depth [] (map (λ r. items_seen r.items) l.yielded);
}
