use Rattle.std.proofs.Common.{◌-◌, sym, ap, ◌∙◌}
use Rattle.rdl_marks.specs.declared.marks.Piece.{Piece}
use Rattle.rdl_marks.specs.View.{piece_traces}
use Rattle.rdl_renew.specs.Raised.{item_raises, all_raise, new_raise}
use Rattle.rdl_renew.proofs.Raises.{run_is_silent, new_ones, marked_one}
use Rattle.rdl_renew.proofs.raise.piece_raises.Goals as goal

pub returns-in-New : goal.returns-in-New
returns-in-New c =
    c.new_raise.ensures
    ∙ (ap new_raise c.front.ensures
    ∙ (sym (new_ones c.in-New.count c.args.items.now) ∙ sym (ap (λ (p : Piece). all_raise item_raises (piece_traces p) c.args.items.now) c.in-New.is)))

pub returns-in-Kept : goal.returns-in-Kept
returns-in-Kept c =
    c.none.ensures
    ∙ (sym (run_is_silent (c.in-Kept.field-1 - c.in-Kept.field-0) c.in-Kept.field-0 c.args.items.now)
    ∙ sym (ap (λ (p : Piece). all_raise item_raises (piece_traces p) c.args.items.now) c.in-Kept.is))

pub returns-else-is_empty : goal.returns-else-is_empty
returns-else-is_empty c =
    marked_one c.args.items.now c.in-Marked.field-0 c.in-Marked.mark c.index-items-0.result c.marked_raises.result (sym c.is_empty.ensures ∙ c.if-is_empty.false) c.index-items-0.is (c.marked_raises.ensures c.in-Marked.field-0)
    ∙ sym (ap (λ (p : Piece). all_raise item_raises (piece_traces p) c.args.items.now) c.in-Marked.is)
