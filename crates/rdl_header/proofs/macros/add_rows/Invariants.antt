use Rattle.std.proofs.Common.{◌≡◌, ◌++◌, take}
use Rattle.rdl_header.specs.HeaderText.{macros_below}
use Rattle.rdl_header.specs.Lines.{added}
use Rattle.rdl_header.specs.Marks.{path_marks}
use Rattle.rdl_header.proofs.WordMacros.{register_after}
use Rattle.rdl_header.proofs.macros.add_rows.Given as goal

abbrev pub invariant-rows : goal.invariant-rows
invariant-rows l = record {
  inside : l.register ≡ register_after 0 (take l.row-index l.rows);
  added : l.lines ≡ added l.fn.lines (macros_below 0 (take l.row-index l.rows));
  marked : l.marks.items ≡ l.fn.marks.items ++ path_marks (take l.row-index l.rows);
}
