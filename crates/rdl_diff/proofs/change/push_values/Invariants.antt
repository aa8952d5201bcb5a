use Rattle.std.proofs.Common.{◌≡◌, ◌++◌, take, flat_map}
use Rattle.rdl_diff.specs.DiffText.{told_change}
use Rattle.rdl_diff.specs.Seen.{changes_seen}
use Rattle.rdl_diff.specs.declared.what.What.TheVariants.{Value}
use Rattle.rdl_diff.proofs.change.push_values.Given as goal

abbrev pub invariant-properties : goal.invariant-properties
invariant-properties l = changes_seen l.changes.items ≡ changes_seen l.initial.changes.items ++ flat_map (λ p. told_change l.ignored l.old l.new (Value p)) (take l.property-index l.properties)
