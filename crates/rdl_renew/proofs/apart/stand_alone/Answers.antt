use Rattle.std.proofs.Common.{◌≡◌, sym, ap, ◌∙◌}
use Rattle.rdl_marks.specs.Marks.{Marks}
use Rattle.rdl_marks.specs.View.{list_of, pieces_traces, in_order}
use Rattle.rdl_marks.proofs.Rounds.{list_of-traces_of}
use Rattle.rdl_renew.proofs.ApartItems.{all_stand_alone_still, as_it_was}
use Rattle.rdl_renew.proofs.apart.stand_alone.Goals.{Then-not-owns, After-do_owns_stand_alone}
use Rattle.rdl_renew.proofs.apart.stand_alone.Goals as goal

pub returns-then-not-owns : goal.returns-then-not-owns
returns-then-not-owns c e old described was =
    let m = c.args.marks.now in
    let ps = in_order c.marks.inside.pieces in
    let body = c.args.body.now in
    let traces : list_of m.traces ≡ pieces_traces ps = ap (λ (n : Marks). list_of n.traces) (sym c.marks.view_is) ∙ list_of-traces_of (pieces_traces ps) in
    all_stand_alone_still m old body c.in-Some.owns described was
    (as_it_was m (pieces_traces ps) body c.in-Some.owns traces c.in-Some.ensures)
    (λ o. absurd (let no = sym o ∙ c.if-not-owns.true in cc))

pub returns-else-not-owns : goal.returns-else-not-owns
returns-else-not-owns c e old described was =
    let m = c.args.marks.now in
    let ps = in_order c.marks.inside.pieces in
    let body = c.args.body.now in
    let traces : list_of m.traces ≡ pieces_traces ps = ap (λ (n : Marks). list_of n.traces) (sym c.marks.view_is) ∙ list_of-traces_of (pieces_traces ps) in
    all_stand_alone_still m old body c.in-Some.owns described was
    (as_it_was m (pieces_traces ps) body c.in-Some.owns traces c.in-Some.ensures)
    (λ o. c.do_owns_stand_alone.ensures e)
