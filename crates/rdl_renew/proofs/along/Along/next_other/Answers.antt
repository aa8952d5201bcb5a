use Rattle.std.proofs.Common.{◌≡◌, ◌+◌, None, Some, refl, sym, ap, subst, ◌∙◌, arith}
use Rattle.std.specs.Prelude.{option_copied, option_map, slice_get}
use Rattle.rdl_marks.specs.View.{piece_traces, in_order, same_item}
use Rattle.rdl_renew.specs.declared.along.Along.{Along}
use Rattle.rdl_renew.specs.Along.{next_of, AreSame}
use Rattle.rdl_renew.proofs.Passed.{none_past, next_within, next_behind, item_passed, items_fit, one_passed, piece_passed}
use Rattle.rdl_renew.proofs.along.Along.next_other.Goals as goal

pub returns-in-Some-item_of-clause-passed : goal.returns-in-Some-item_of-clause-passed
returns-in-Some-item_of-clause-passed c = λ i few was.
    let ps = in_order c.args.pieces.now in
    let a = c.loop-piece.self in
    let p = c.in-Some.piece.now in
    let here : slice_get ps a.pieces ≡ Some p = sym c.get.ensures.piece ∙ ap option_copied c.in-Some.is in
    let told = sym c.item_of.ensures ∙ ap (option_map next_of) c.in-Some-item_of.is in
    let passed = c.loop-piece.invariant i was in
    let b : Along = record { pieces = a.pieces; items = c.saturating_add-self.result; same = a.same } in
    item_passed ps c.args.behind a b i p (next_of c.in-Some-item_of.next) passed here told refl (c.saturating_add-self.ensures ∙ items_fit ps c.args.behind a i passed few) refl

pub returns-in-Some-item_of-clause-next : goal.returns-in-Some-item_of-clause-next
returns-in-Some-item_of-clause-next c = λ gone i was numbered.
    let ps = in_order c.args.pieces.now in
    let a = c.loop-piece.self in
    let p = c.in-Some.piece.now in
    let here : slice_get ps a.pieces ≡ Some p = sym c.get.ensures.piece ∙ ap option_copied c.in-Some.is in
    let told = sym c.item_of.ensures ∙ ap (option_map next_of) c.in-Some-item_of.is in
    next_within ps c.args.behind gone a i p (next_of c.in-Some-item_of.next) (c.loop-piece.invariant i was) here told

pub loop-piece-preserved : goal.loop-piece-preserved
loop-piece-preserved c = λ i was.
    let ps = in_order c.args.pieces.now in
    let a = c.loop-piece.self in
    let p = c.in-Some.piece.now in
    let here : slice_get ps a.pieces ≡ Some p = sym c.get.ensures.piece ∙ ap option_copied c.in-Some.is in
    let none : slice_get (piece_traces p) a.items ≡ None = sym c.item_of.ensures ∙ ap (option_map next_of) c.in_default-item_of.is in
    let b : Along = record { pieces = a.pieces + 1; items = 0; same = c.same_of-self.result } in
    piece_passed ps c.args.behind a b i p (c.loop-piece.invariant i was) here none refl refl (subst (λ o. AreSame o c.args.behind c.same_of-self.result) c.get-in-Some.ensures.piece c.same_of-self.ensures)

pub returns-clause-passed : goal.returns-clause-passed
returns-clause-passed c = λ i few was.
    let ps = in_order c.args.pieces.now in
    let a = c.loop-piece.self in
    let passed = c.loop-piece.invariant i was in
    let b : Along = record { pieces = a.pieces; items = c.saturating_add-self-2.result; same = a.same } in
    one_passed ps c.args.behind a b i passed (none_past ps a.pieces (sym c.get.ensures.piece ∙ ap option_copied c.in_default.is)) refl (c.saturating_add-self-2.ensures ∙ items_fit ps c.args.behind a i passed few) refl

pub returns-clause-next : goal.returns-clause-next
returns-clause-next c = λ gone i was numbered.
    let ps = in_order c.args.pieces.now in
    let a = c.loop-piece.self in
    let told = next_behind ps c.args.behind gone a i (c.loop-piece.invariant i was) (none_past ps a.pieces (sym c.get.ensures.piece ∙ ap option_copied c.in_default.is)) in
    let few = numbered (c.args.behind + a.items) told in
    let number : c.saturating_add-number.result ≡ c.args.behind + a.items = c.saturating_add-number.ensures ∙ omega (arith, few) in
    told ∙ ap (λ n. Some (same_item n)) (sym number)
