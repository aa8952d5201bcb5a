use Rattle.std.proofs.Common.{sym, ap}
use Rattle.std.specs.Prelude.{is_some}
use Rattle.std.specs.declared.cmp.Ordering.TheVariants.{Less}
use Rattle.std.proofs.lemmas.Cmp.{ranked}
use Rattle.rdl_elab.proofs.RangeSearches.{empty-overlap, less, not-less, found, none-found}
use Rattle.rdl_elab.proofs.rows.siblings.runs_into.Goals as goal

pub returns-then-span : goal.returns-then-span
returns-then-span c = λ before r. sym (empty-overlap c.args.span before c.if-span.true)

pub returns-in-Some : goal.returns-in-Some
returns-in-Some c =
    let between = c.range.ensures.in_range tt in
    let entry = between.3 _ _ c.in-Some.ensures.steps in
    let greatest = between.4 _ _ c.in-Some.ensures.steps in
    λ before r.
    found c.args.ranges.now before c.args.span c.in-Some.field-0-0.now c.in-Some.end.now r c.if-span.false (ranked c.in-Some.field-0-0.now c.args.span.end Less (sym entry.0.1)) entry.1
    (λ q w has lt. not-less c.in-Some.field-0-0.now q (greatest q (tt, less q c.args.span.end lt) (ap is_some has)))

pub returns-in-None : goal.returns-in-None
returns-in-None c = λ before r. sym (none-found c.args.ranges.now before c.args.span r (λ q lt. (c.range.ensures.in_range tt).5 c.in-None.ensures.steps.0 q (tt, less q c.args.span.end lt)))
