use Rattle.std.proofs.Common.{◌≡◌, Some, sym, ap, subst, ◌∙◌}
use Rattle.std.specs.Prelude.{option_copied, slice_get}
use Rattle.rdl_marks.specs.View.{in_order}
use Rattle.rdl_marks.specs.declared.marks.Piece.TheVariants.{Kept}
use Rattle.rdl_renew.specs.Along.{AreUntouched}
use Rattle.rdl_renew.proofs.Passed.{all_untouched, first_untouched}
use Rattle.rdl_renew.proofs.along.untouched.Goals as goal

pub returns-then-from-eq0 : goal.returns-then-from-eq0
returns-then-from-eq0 c =
    let to = c.in-Kept.to in
    let there : slice_get (in_order c.marks.inside.pieces) 0 ≡ Some (Kept 0 to) =
    sym c.get.ensures.piece ∙ (ap option_copied c.in-Some.is ∙ (ap Some c.in-Kept.is ∙ ap (λ n. Some (Kept n to)) c.if-from-eq0.true)) in
    subst (λ m. AreUntouched m to) c.marks.view_is (first_untouched (in_order c.marks.inside.pieces) c.marks.inside.behind c.marks.inside.gone.items to there)

pub returns-then-marks-eq0 : goal.returns-then-marks-eq0
returns-then-marks-eq0 c =
    subst (λ m. AreUntouched m 18446744073709551615) c.marks.view_is
    (all_untouched (in_order c.marks.inside.pieces) c.marks.inside.gone.items c.marks.inside.behind 18446744073709551615 (sym c.get.ensures.piece ∙ ap option_copied c.in-None.is) c.if-marks-eq0.true)
