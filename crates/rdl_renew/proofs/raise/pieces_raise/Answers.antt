use Rattle.std.proofs.Common.{◌+◌, drop, option_copied, sym, ap, ◌∙◌}
use Rattle.rdl_marks.specs.View.{in_order, pieces_traces}
use Rattle.rdl_seen.specs.Alert.{with_alert}
use Rattle.rdl_renew.specs.Raised.{item_raises, all_raise}
use Rattle.rdl_renew.proofs.Raises.{one_piece, pieces_done}
use Rattle.rdl_renew.proofs.raise.pieces_raise.Goals as goal

pub loop-piece-preserved : goal.loop-piece-preserved
loop-piece-preserved c =
    let ps = in_order c.args.pieces.now in
    let alert = c.with-alert.ensures ∙ ap (with_alert c.loop-piece.alert) c.piece_raises.ensures in
    let rest = c.behind-rest.ensures ∙ ap (λ n. drop n c.loop-piece.rest.now) c.len.ensures in
    (λ j. with_alert (alert j) (all_raise item_raises (pieces_traces (drop (c.loop-piece.place + 1) ps)) (rest j)))
    ∙ one_piece ps c.loop-piece.place c.in-Some.piece.now c.loop-piece.rest.now c.loop-piece.alert (all_raise item_raises (pieces_traces ps) c.args.items.now)
    (sym c.get.ensures.piece ∙ ap option_copied c.in-Some.is) c.loop-piece.invariant

pub returns : goal.returns
returns c =
    let ps = in_order c.args.pieces.now in
    pieces_done ps c.loop-piece.place c.loop-piece.rest.now c.loop-piece.alert (all_raise item_raises (pieces_traces ps) c.args.items.now) (sym c.get.ensures.piece ∙ ap option_copied c.in_default.is) c.loop-piece.invariant
