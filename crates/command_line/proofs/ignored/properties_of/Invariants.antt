use Rattle.std.proofs.Common.{◌≡◌, ◌++◌, map, length, Some}
use Rattle.rdl_tree.specs.Properties.{property_of}
use Rattle.command_line.specs.ComparisonWords.{IsUnknownAmong}
use Rattle.command_line.proofs.ignored.properties_of.Given as goal

abbrev pub invariant-names : goal.invariant-names
invariant-names l = record {
  known : map Some l.properties.items ++ map (λ n. property_of n.now) l.rest ≡ map (λ n. property_of n.now) l.fn.names;
  unknown : IsUnknownAmong (map (λ n. n.now) l.rest) → IsUnknownAmong (map (λ n. n.now) l.fn.names);
}

abbrev pub decreases-names : goal.decreases-names
decreases-names l = length l.rest
