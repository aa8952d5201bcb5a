-- Each piece is one step of the scan, and what is known stays in order.
use Rattle.std.proofs.Common.{◌≡◌, ◌<◌, ◌+◌, length, drop, get_or, Some, ap, sym, ◌∙◌, subst, eq-eqb, arith, ◌-◌}
use Rattle.std.specs.Option.{option_map}
use Rattle.std.proofs.lemmas.Bool.{ne_eqb}
use Rattle.std.proofs.lemmas.List.{length-drop}
use Rattle.rdl_source.specs.Gap.{begun, scan_from, comment_len, parts_of, gap_parts}
use Rattle.rdl_source.proofs.Scanning.{InOrder, tail, past_line, past_blank, at_word, past_comment, begun_in_order, later, line_in_order, comment_in_order, trail_in_order, float_in_order, from_begin, nothing_left}
use Rattle.rdl_source.proofs.gap.split_gap.Goals as goal

pub pieces-init : goal.pieces-init
pieces-init c = record {
  within = omega arith;
  same = from_begin c.args.left _ c.args.gap.now c.new-scan.ensures;
  order = subst (InOrder 0) (sym c.new-scan.ensures) (begun_in_order c.args.left);
}

pub pieces-preserved-then-gap-at-eq10 : goal.pieces-preserved-then-gap-at-eq10
pieces-preserved-then-gap-at-eq10 c =
    let gap = c.args.gap.now in
    let at = c.pieces.at in
    let e = eq-eqb (get_or gap at 0) 10 c.if-gap-at-eq10.true in
    record {
      within = omega (arith, c.pieces-test.true);
      same =
          ap (λ m. scan_from 0 (at + 1) m (drop (at + 1) gap)) c.line_ended-scan.ensures
          ∙ (sym (past_line gap at c.pieces.scan c.pieces-test.true e) ∙ c.pieces.invariant.same);
      order = subst (InOrder (at + 1)) (sym c.line_ended-scan.ensures) (line_in_order at c.pieces.scan c.pieces.invariant.order);
    }

pub pieces-preserved-then-is_blank : goal.pieces-preserved-then-is_blank
pieces-preserved-then-is_blank c =
    let gap = c.args.gap.now in
    let at = c.pieces.at in
    let e = ne_eqb (get_or gap at 0) 10 c.if-gap-at-eq10.false in
    record {
      within = omega (arith, c.pieces-test.true);
      same = sym (past_blank gap at c.pieces.scan c.pieces-test.true e (sym c.is_blank.ensures ∙ c.if-is_blank.true)) ∙ c.pieces.invariant.same;
      order = later at (at + 1) c.pieces.scan (omega arith) c.pieces.invariant.order;
    }

pub returns-then-len-eq0-clause-parts : goal.returns-then-len-eq0-clause-parts
unfolding gap_parts
returns-then-len-eq0-clause-parts c =
    let gap = c.args.gap.now in
    let at = c.pieces.at in
    let e = ne_eqb (get_or gap at 0) 10 c.if-gap-at-eq10.false in
    let none : comment_len (drop at gap) ≡ 0 = sym (ap comment_len (tail gap at)) ∙ (sym c.comment_len-len.ensures.len ∙ c.if-len-eq0.true) in
    ap (option_map (parts_of c.args.right (length gap))) (sym (at_word gap at c.pieces.scan c.pieces-test.true e (sym c.is_blank.ensures ∙ c.if-is_blank.false) none) ∙ c.pieces.invariant.same)

pub pieces-preserved : goal.pieces-preserved
pieces-preserved c =
    let gap = c.args.gap.now in
    let at = c.pieces.at in
    let n = c.comment_len-len.result in
    let e = ne_eqb (get_or gap at 0) 10 c.if-gap-at-eq10.false in
    let some : 0 < n = omega (arith, c.if-len-eq0.false) in
    let len : comment_len (drop at gap) ≡ n = sym (ap comment_len (tail gap at)) ∙ sym c.comment_len-len.ensures.len in
    let left : length (drop at gap) ≡ length gap - at = length-drop at gap in
    record {
      within = omega (arith, c.comment_len-len.ensures.within, ap length (tail gap at), left, c.pieces-test.true);
      same =
          ap (λ m. scan_from 0 (at + n) m (drop (at + n) gap)) c.comment_ended-scan.ensures
          ∙ (sym (past_comment gap at n c.pieces.scan c.pieces-test.true e (sym c.is_blank.ensures ∙ c.if-is_blank.false) len some) ∙ c.pieces.invariant.same);
      order = subst (InOrder (at + n)) (sym c.comment_ended-scan.ensures) (comment_in_order at n c.pieces.scan c.pieces.invariant.order);
    }

pub parts-requires-clause-trail : goal.parts-requires-clause-trail
parts-requires-clause-trail c = trail_in_order c.args.right c.pieces.at (length c.args.gap.now) c.pieces.scan c.pieces.invariant.within c.pieces.invariant.order

pub parts-requires-clause-float : goal.parts-requires-clause-float
parts-requires-clause-float c = float_in_order c.args.right c.pieces.at (length c.args.gap.now) c.pieces.scan c.pieces.invariant.within c.pieces.invariant.order

pub returns-clause-parts : goal.returns-clause-parts
unfolding gap_parts
returns-clause-parts c =
    let gap = c.args.gap.now in
    let end : scan_from 0 0 (begun c.args.left) gap ≡ Some c.pieces.scan = sym c.pieces.invariant.same ∙ nothing_left gap c.pieces.at c.pieces.scan c.pieces-test.false in
    ap Some c.parts.ensures.parts ∙ sym (ap (option_map (parts_of c.args.right (length gap))) end)
