use Rattle.std.proofs.Common.{◌≡◌, ◌<◌, ltb→lt, T, subst, length, Some, refl, ap, sym, ◌∙◌}
use Rattle.std.proofs.lemmas.Option.{slice_get_read}
use Rattle.std.specs.Prelude.{slice_get}
use Rattle.rdl_rewrite.proofs.Untouched.{elsewhere}
use Rattle.rdl_rewrite.proofs.spared.may_lead_into.Goals as goal

pub returns-in-Some : goal.returns-in-Some
returns-in-Some c =
    let xs = c.as_slice.result.now in
    let k = c.in-Some.next.now in
    let inside : c.len.result < length xs = ltb→lt c.len.result (length xs) (subst T c.in-Some.ensures.lookup.0 tt) in
    let there : slice_get c.args.way.now (length c.args.at.now) ≡ Some k =
    ap (λ w. slice_get w (length c.args.at.now)) (sym c.as_slice.ensures.value) ∙ ap (slice_get xs) (sym c.len.ensures.same)
    ∙ slice_get_read xs (length xs) c.len.result k refl inside c.in-Some.ensures.lookup.1 in
    elsewhere c.args.at.now c.args.way.now c.args.number k there
