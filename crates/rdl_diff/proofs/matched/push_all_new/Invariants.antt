use Rattle.std.proofs.Common.{◌≡◌, ◌++◌, flat_map, take}
use Rattle.std.specs.List.{filter}
use Rattle.rdl_diff.specs.ByPath.{row_under}
use Rattle.rdl_diff.specs.DiffText.{is_kept, new_line}
use Rattle.rdl_diff.specs.Paths.{path}
use Rattle.rdl_diff.specs.Seen.{lines_seen}
use Rattle.rdl_diff.proofs.matched.push_all_new.Given as goal

abbrev pub invariant-rows : goal.invariant-rows
invariant-rows l = lines_seen l.lines.items ≡ lines_seen l.initial.lines.items ++ flat_map (λ r. filter (is_kept l.choice.severity) (new_line l.choice (row_under l.old (path r)) r)) (take l.row-index l.rows)
