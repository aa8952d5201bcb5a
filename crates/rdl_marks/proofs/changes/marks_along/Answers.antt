use Rattle.std.proofs.Common.{◌≡◌, suc, ◌-◌, ◌<◌, List, Some, length, ap, sym, refl, ◌∙◌, arith}
use Rattle.std.specs.Prelude.{slice_get}
use Rattle.std.proofs.lemmas.Option.{slice_get_read}
use Rattle.rdl_tree.specs.declared.patch.Patch.{Patch}
use Rattle.rdl_marks.specs.Marks.{no_marks}
use Rattle.rdl_marks.specs.Noted.{noted, all_noted}
use Rattle.rdl_marks.proofs.Lent.{drop-before}
use Rattle.rdl_marks.proofs.changes.marks_along.Goals as goal

pub patches-preserved : goal.patches-preserved
patches-preserved c =
    let ps = c.args.backs.now in
    let k = c.patches.number - 1 in
    let back = c.index-backs-number.result in
    let before : c.patches.number ≡ suc k = let h = c.patches-test.true in omega (arith, h) in
    let low : k < length ps = let h = c.patches.invariant.within in let t = c.patches-test.true in omega (arith, h, t) in
    let at : slice_get ps k ≡ Some back = slice_get_read ps (length ps) k back refl low c.index-backs-number.is in
    record {
      noted =
          c.in_ok-note.ensures.noted ∙ ap (noted back) c.patches.invariant.noted
          ∙ sym (ap (λ (qs : List Patch). all_noted qs no_marks) (drop-before ps k c.patches.number back before at));
      within = let h = c.patches.invariant.within in omega (arith, h);
    }
