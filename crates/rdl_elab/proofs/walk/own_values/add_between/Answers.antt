use Rattle.std.proofs.Common.{◌≡◌, ◌+◌, ◌<◌, List, length, refl, ap, sym, subst, ◌∙◌, Some, slice_get, arith}
use Rattle.std.proofs.lemmas.Option.{slice_get_read}
use Rattle.rdl_tree.specs.View.{list_of}
use Rattle.rdl_tree.specs.declared.description.Item.{Item}
use Rattle.rdl_elab.specs.OwnValues.{AreStatedBefore}
use Rattle.rdl_elab.proofs.OwnValues.{behind-item}
use Rattle.rdl_elab.proofs.walk.own_values.add_between.Goals as goal

pub loop-i-preserved : goal.loop-i-preserved
loop-i-preserved c =
    let body = c.args.body.now in
    let i = c.loop-i.i in
    let x = c.index-all-i.result in
    let xs = c.as_slice-all.result.now in
    let less : i < length xs = omega (arith, ap length c.as_slice-all.ensures, c.requires.within, c.loop-i-test.true) in
    let here : slice_get xs i ≡ Some x = slice_get_read xs (length xs) i x refl less c.index-all-i.is in
    let there : Some x ≡ slice_get (list_of body) i = sym here ∙ ap (λ (ys : List Item). slice_get ys i) c.as_slice-all.ensures in
    subst (λ o. AreStatedBefore (i + 1) c.add_own.new.items.items o body) (sym c.first_met.ensures)
    (behind-item i body x c.loop-i.items.items c.add_own.new.items.items c.loop-i.first_dynamic there c.in_ok-add_own.ensures c.loop-i.invariant)
