use Rattle.std.proofs.Common.{◌≡◌, ◌++◌, map, take}
use Rattle.rdl_diff.specs.ByPlace.{standing}
use Rattle.rdl_diff.specs.DiffText.{gone}
use Rattle.rdl_diff.specs.Seen.{lines_seen}
use Rattle.rdl_diff.proofs.line.push_gone.Given as goal

abbrev pub invariant-rows : goal.invariant-rows
invariant-rows l = lines_seen l.lines.items ≡ lines_seen l.initial.lines.items ++ map (λ x. gone (standing x).0) (take l.lone-index l.rows)
