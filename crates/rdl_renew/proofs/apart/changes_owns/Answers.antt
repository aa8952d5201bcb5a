use Rattle.std.proofs.Common.{◌≡◌, ◌+◌, length, Some, option_copied, sym, ap, subst, ◌∙◌}
use Rattle.std.specs.Prelude.{None, slice_get}
use Rattle.rdl_marks.specs.View.{piece_traces, pieces_traces, in_order}
use Rattle.rdl_renew.proofs.ApartItems.{AreDoneApart, all_done, kept_piece, changed_piece}
use Rattle.rdl_renew.proofs.Raises.{past_all}
use Rattle.rdl_renew.proofs.apart.changes_owns.Goals.{then-not-is_kept+else-not-are_apart+then-owns, then-not-is_kept+else-not-are_apart+else-owns, else-not-is_kept}
use Rattle.rdl_renew.proofs.apart.changes_owns.Goals as goal

pub loop-piece-preserved : goal.loop-piece-preserved
loop-piece-preserved c =
    let ps = in_order c.args.pieces.now in
    let k = c.loop-piece.place in
    let p = c.in-Some.piece.now in
    let here : slice_get ps k ≡ Some p = sym c.get.ensures.piece ∙ ap option_copied c.in-Some.is in
    let body = c.args.body.now in
    let from = c.loop-piece.from in
    let owns = c.loop-piece.owns in
    let at : c.in_ok-to.to ≡ from + length (piece_traces p) = c.in_ok-to.ensures.1 ∙ ap (λ n. from + n) c.len.ensures in
    elim c.if-not-is_kept.branch [
      | then-not-is_kept+else-not-are_apart+then-owns w ↦
          changed_piece ps k p body owns c.if-not-is_kept.owns from c.in_ok-to.to here c.loop-piece.invariant at (w.are_apart.ensures w.if-not-are_apart.false)
          (λ q. absurd (let no = sym q ∙ (w.owns-is ∙ w.if-owns.true) in cc))
      | then-not-is_kept+else-not-are_apart+else-owns w ↦
          changed_piece ps k p body owns c.if-not-is_kept.owns from c.in_ok-to.to here c.loop-piece.invariant at (w.are_apart.ensures w.if-not-are_apart.false)
          (λ q. (w.if-owns.false, w.has_own-owns.ensures (sym w.owns-is ∙ q)))
      | else-not-is_kept w ↦
          kept_piece ps k p body owns c.if-not-is_kept.owns from c.in_ok-to.to here c.loop-piece.invariant at
          (c.is_kept.ensures w.if-not-is_kept.false) w.owns-is
    ]

pub returns : goal.returns
returns c =
    let ps = in_order c.args.pieces.now in
    let none : slice_get ps c.loop-piece.place ≡ None = sym c.get.ensures.piece ∙ ap option_copied c.in_default.is in
    all_done (pieces_traces ps) c.args.body.now c.loop-piece.owns c.loop-piece.from
    (subst (λ qs. AreDoneApart (pieces_traces ps) (pieces_traces qs) c.args.body.now c.loop-piece.owns c.loop-piece.from) (past_all ps c.loop-piece.place none) c.loop-piece.invariant)
