use Rattle.std.proofs.Common.{◌≡◌, map, take}
use Rattle.serde_json.specs.View.{view}
use Rattle.rdl_diff.specs.Json.{changed_data}
use Rattle.rdl_diff.specs.Seen.{change_seen}
use Rattle.rdl_diff.proofs.json.all_changed.Given as goal

abbrev pub invariant-changes : goal.invariant-changes
invariant-changes l = map view l.all.items ≡ map (λ c. changed_data (change_seen c)) (take l.change-index l.changes)
