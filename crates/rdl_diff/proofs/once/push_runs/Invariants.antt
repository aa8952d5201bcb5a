use Rattle.std.proofs.Common.{◌≡◌, ◌++◌, flat_map}
use Rattle.rdl_diff.specs.Alike.{told_inside}
use Rattle.rdl_diff.specs.Seen.{items_seen}
use Rattle.rdl_diff.proofs.once.push_runs.Given as goal

abbrev pub invariant-runs : goal.invariant-runs
invariant-runs l = items_seen l.told.items ≡ items_seen l.initial.told.items ++ flat_map (λ r. told_inside l.depth (items_seen r.items)) l.yielded
