use Rattle.std.proofs.Common.{◌≡◌, Option, None, Some, sym, ap, ◌∙◌}
use Rattle.std.specs.Prelude.{option_copied}
use Rattle.rdl_marks.specs.declared.marks.Piece.{Piece}
use Rattle.rdl_marks.specs.declared.marks.Piece.TheVariants.{Kept}
use Rattle.rdl_renew.proofs.Passed.{kept_item}
use Rattle.rdl_renew.proofs.along.same_of.Goals as goal

some : {x y : Piece} → ◌≡◌ {A = Option Piece} (Some x) (Some y) → x ≡ y
some e = cc

none : {A : Type 0} {x : Piece} → ◌≡◌ {A = Option Piece} (Some x) None → A
none e = cc

pub returns-in-Kept : goal.returns-in-Kept
returns-in-Kept c =
    let from = c.in-Kept.from in
    let to = c.in-Kept.to in
    let is : option_copied c.args.piece ≡ Some (Kept from to) = ap option_copied c.in-Some.is ∙ ap Some c.in-Kept.is in
    record {
      within = λ q k there l. kept_item q from to k c.saturating_sub.result (some (sym there ∙ is)) c.saturating_sub.ensures l;
      past = λ empty. none (sym is ∙ empty);
    }
