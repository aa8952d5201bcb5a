use Rattle.std.proofs.Common.{◌∙◌, refl, sym, append-nil}
use Rattle.rdl_header.proofs.AddedLines.{none_added}
use Rattle.rdl_header.proofs.WordMacros.{row_added, row_behind, row_marked}
use Rattle.rdl_header.proofs.macros.add_rows.Goals as goal

pub rows-init : goal.rows-init
rows-init c = record { inside = refl; added = sym (none_added c.args.lines.now); marked = sym (append-nil c.args.marks.now.items) }

pub rows-preserved : goal.rows-preserved
rows-preserved c = record {
  inside = c.register_behind-register.ensures ∙ row_behind c.rows.row-index c.args.rows.now c.row-item.result c.rows.register c.rows-test.true c.row-item.is c.rows.invariant.inside;
  added = row_added c.rows.row-index c.args.rows.now c.row-item.result c.rows.register c.rows-test.true c.row-item.is c.rows.invariant.inside _ _ _ c.rows.invariant.added c.in_ok-add_row.ensures;
  marked = row_marked c.rows.row-index c.args.rows.now c.row-item.result c.rows-test.true c.row-item.is _ _ _ c.rows.invariant.marked c.in_ok-push_marks.ensures;
}
