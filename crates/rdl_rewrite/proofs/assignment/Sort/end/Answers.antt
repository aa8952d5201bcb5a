use Rattle.std.proofs.Common.{ap, sym, ◌∙◌}
use Rattle.rdl_rewrite.specs.Assignment.{is_sort}
use Rattle.rdl_rewrite.proofs.Assignments.{end_here, end_before}
use Rattle.rdl_rewrite.proofs.assignment.Sort.end.Goals as goal
use Rattle.rdl_rewrite.proofs.assignment.Sort.end.Goals.{then-has, else-has}

pub items-preserved : goal.items-preserved
items-preserved c =
    let item = c.index-items-number.result in
    let tested = ap (is_sort c.args.self) (sym c.index-items-number.is) ∙ sym c.has.ensures in
    elim c.if-has.branch [
      | then-has w ↦ w.end-is ∙ end_here _ c.args.items.now c.items.number item c.items-test.true (tested ∙ w.if-has.true)
      | else-has w ↦ w.end-is ∙ end_before _ c.args.items.now c.items.number _ item c.items-test.true (tested ∙ w.if-has.false) c.items.invariant
    ]
