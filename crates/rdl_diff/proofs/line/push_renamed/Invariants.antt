use Rattle.std.proofs.Common.{◌≡◌, ◌++◌, map, take}
use Rattle.rdl_diff.specs.ByPath.{pair}
use Rattle.rdl_diff.specs.DiffText.{renamed}
use Rattle.rdl_diff.specs.Seen.{lines_seen}
use Rattle.rdl_diff.proofs.line.push_renamed.Given as goal

abbrev pub invariant-renames : goal.invariant-renames
invariant-renames l = lines_seen l.lines.items ≡ lines_seen l.initial.lines.items ++ map (λ x. renamed (pair x).0 (pair x).1) (take l.rename-index l.renames)
