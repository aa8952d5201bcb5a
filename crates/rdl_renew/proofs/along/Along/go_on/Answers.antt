use Rattle.std.proofs.Common.{◌≡◌, ◌+◌, None, Some, refl, sym, ap, subst, ◌∙◌, arith}
use Rattle.std.specs.Prelude.{option_copied, slice_get}
use Rattle.std.proofs.lemmas.Option.{slice_get_past}
use Rattle.rdl_marks.specs.View.{piece_traces, in_order}
use Rattle.rdl_renew.specs.declared.along.Along.{Along}
use Rattle.rdl_renew.specs.Along.{AreSame}
use Rattle.rdl_renew.proofs.Passed.{piece_passed}
use Rattle.rdl_renew.proofs.along.Along.go_on.Goals as goal

pub loop-piece-preserved : goal.loop-piece-preserved
loop-piece-preserved c = λ i was.
    let ps = in_order c.args.pieces.now in
    let a = c.loop-piece.self in
    let p = c.in-Some.piece.now in
    let here : slice_get ps a.pieces ≡ Some p = sym c.get.ensures.piece ∙ ap option_copied c.in-Some.is in
    let none : slice_get (piece_traces p) a.items ≡ None = slice_get_past (piece_traces p) a.items (omega (arith, c.len.ensures, c.if-self-len.false)) in
    let b : Along = record { pieces = a.pieces + 1; items = 0; same = c.same_of-self.result } in
    piece_passed ps c.args.behind a b i p (c.loop-piece.invariant i was) here none refl refl (subst (λ o. AreSame o c.args.behind c.same_of-self.result) c.get-in-Some.ensures.piece c.same_of-self.ensures)
