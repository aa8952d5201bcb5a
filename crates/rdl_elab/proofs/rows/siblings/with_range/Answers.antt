use Rattle.std.proofs.Common.{◌≤◌, sym, subst}
use Rattle.rdl_elab.specs.SiblingRanges.{AreRangesIfKept}
use Rattle.rdl_elab.proofs.RangesKept.{one-empty, one-more}
use Rattle.rdl_elab.proofs.rows.siblings.with_range.Goals as goal

pub returns-then-span : goal.returns-then-span
returns-then-span c =
    λ before sibling r none own.
    one-empty c.in-Some.ranges before sibling (subst (λ kept. AreRangesIfKept kept before) c.in-Some.is r) (subst (λ span. span.end ≤ span.start) (sym own) c.if-span.true)

pub returns : goal.returns
returns c =
    λ before sibling r none own.
    one-more c.in-Some.ranges c.insert.new.self before c.args.span (subst (λ kept. AreRangesIfKept kept before) c.in-Some.is r) none c.if-span.false c.in_ok-insert.ensures.updates sibling own
