use Rattle.std.proofs.Common.{◌≡◌, take}
use Rattle.rdl_rewrite.specs.Assignment.{is_sort, up_to_last}
use Rattle.rdl_rewrite.proofs.assignment.Sort.end.Given as goal

abbrev pub invariant-items : goal.invariant-items
invariant-items l = l.end ≡ up_to_last (is_sort l.self) (take l.number l.items)
