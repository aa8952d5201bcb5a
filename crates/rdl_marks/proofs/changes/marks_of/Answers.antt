use Rattle.std.proofs.Common.{◌≡◌, suc, ◌-◌, List, Some, None, ap, sym, ◌∙◌, arith, option_copied}
use Rattle.std.specs.Prelude.{slice_get}
use Rattle.rdl_tree.specs.Turned.{kept}
use Rattle.rdl_tree.specs.declared.patch.Patch.{Patch}
use Rattle.rdl_marks.specs.Marks.{no_marks}
use Rattle.rdl_marks.specs.Noted.{noted, all_noted}
use Rattle.rdl_marks.proofs.Lent.{drop-before, some-within}
use Rattle.rdl_marks.proofs.changes.marks_of.Goals as goal

pub patches-preserved-in-Continue-1 : goal.patches-preserved-in-Continue-1
patches-preserved-in-Continue-1 c =
    let ps : List Patch = kept c.args.turned.now in
    let at : slice_get ps (c.patches.number - 1) ≡ Some c.in-Some.back.now = sym c.back_patch.ensures ∙ ap option_copied c.in-Some.is in
    let before : c.patches.number ≡ suc (c.patches.number - 1) = let k = c.patches-test.true in omega (arith, k) in
    record {
      noted =
          c.in_ok-note.ensures.noted ∙ ap (noted c.in-Some.back.now) c.patches.invariant.noted
          ∙ sym (ap (λ (qs : List Patch). all_noted qs no_marks) (drop-before ps (c.patches.number - 1) c.patches.number c.in-Some.back.now before at));
      within = let h = c.patches.invariant.within in omega (arith, h);
    }

pub patches-preserved : goal.patches-preserved
patches-preserved c =
    let ps : List Patch = kept c.args.turned.now in
    let none : slice_get ps (c.patches.number - 1) ≡ None = sym c.back_patch.ensures ∙ ap option_copied c.in_default.is in
    absurd (let h = c.patches.invariant.within in let k = c.patches-test.true in some-within ps (c.patches.number - 1) (omega (arith, h, k)) none)
