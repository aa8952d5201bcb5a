use Rattle.std.proofs.Common.{◌≡◌, rules, arith, sym, ap, ◌∙◌}
use Rattle.std.specs.Prelude.{option_copied}
use Rattle.std.specs.Vec.{vec_len}
use Rattle.std.proofs.lemmas.Bool.{eqb-true}
use Rattle.std.proofs.lemmas.List.{nil_from_length}
use Rattle.rdl_marks.specs.View.{in_order}
use Rattle.rdl_renew.proofs.Passed.{nothing_told}
use Rattle.rdl_renew.proofs.component.is_untouched.Goals as goal

pub returns-in-None : goal.returns-in-None
returns-in-None c =
    let behind : c.marks.inside.behind ≡ 0 = search rules in
    let none = eqb-true (vec_len c.marks.inside.gone) 0 (sym c.is_empty.ensures ∙ c.if-not-is_empty.false) in
    let gone = nil_from_length c.marks.inside.gone.items (omega (arith, none, c.marks.inside.gone.ok.0)) in
    λ e. sym c.marks.view_is ∙ nothing_told (in_order c.marks.inside.pieces) c.marks.inside.behind c.marks.inside.gone.items (sym c.get.ensures.piece ∙ ap option_copied c.in-None.is) behind gone
