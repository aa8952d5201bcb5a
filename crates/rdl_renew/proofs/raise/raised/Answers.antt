use Rattle.std.proofs.Common.{map, sym, ap, ◌∙◌}
use Rattle.rdl_marks.specs.Marks.{Marks}
use Rattle.rdl_marks.specs.View.{in_order, pieces_traces, gone_trace, gone_item}
use Rattle.rdl_seen.specs.Alert.{with_alert}
use Rattle.rdl_renew.specs.Raised.{item_raises, gone_raises, all_raise, raised}
use Rattle.rdl_renew.proofs.Raises.{raised_of}
use Rattle.rdl_renew.proofs.raise.raised.Goals as goal

pub returns : goal.returns
returns c =
    let marks = c.marks.inside in
    let here = c.pieces_raise-here.ensures ∙ (λ j. all_raise item_raises (pieces_traces (in_order marks.pieces)) (c.as_slice.ensures j)) in
    let gone = c.gone_raise.ensures ∙ (λ j. all_raise gone_raises (map gone_trace (c.as_slice-2.ensures.value j)) (map gone_item (c.as_slice-2.ensures.value j))) in
    c.with.ensures
    ∙ ((λ j. with_alert (here j) (gone j))
    ∙ (sym (raised_of (in_order marks.pieces) marks.behind marks.gone.items c.args.body.now) ∙ ap (λ (m : Marks). raised m c.args.body.now) c.marks.view_is))
