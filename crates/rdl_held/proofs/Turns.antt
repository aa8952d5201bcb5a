-- The marks of patches tell of the step that they make.
use Rattle.std.proofs.Common.{◌≡◌, List, sym, subst, ◌∙◌, ap}
use Rattle.rdl_tree.specs.Items.{Items}
use Rattle.rdl_tree.specs.Patch.{AllFit, image, inverses}
use Rattle.rdl_tree.specs.declared.patch.Patch.{Patch}
use Rattle.rdl_tree.proofs.Nesting.{AllFit-inverses}
use Rattle.rdl_elab.proofs.KnownRows.{levels-few}
use Rattle.rdl_marks.specs.Describes.{Describes}
use Rattle.rdl_marks.specs.InOrder.{AreInOrder}
use Rattle.rdl_marks.specs.Marks.{Marks, no_marks}
use Rattle.rdl_marks.specs.Noted.{all_noted}
use Rattle.rdl_marks.proofs.Described.{nothing_changed, all_described}
use Rattle.rdl_marks.proofs.Orders.{first_in_order, stay_in_order}
use Rattle.rdl_held.specs.HeldMap.{HeldMap, IsHeldOf, IsStep}
use Rattle.rdl_held.specs.Turning.{IsTurned}

pub marks_tell : (h : HeldMap) (back : List Patch) (now : Items) (m : Marks) → IsTurned h back now → m ≡ all_noted back no_marks → IsStep h m now
marks_tell h back now m t e =
    let told : all_noted back no_marks ≡ all_noted (inverses t.patches t.old) no_marks = ap (λ (ps : List Patch). all_noted ps no_marks) t.back in
    record {
      old = t.old;
      held = t.held;
      describes = subst (λ n. Describes m t.old n) (sym t.made) (subst (λ n. Describes n t.old (image t.patches t.old)) (sym (e ∙ told)) (all_described t.patches no_marks t.old t.old t.fit (nothing_changed t.old)));
      in_order = subst AreInOrder (sym e) (stay_in_order back no_marks first_in_order);
    }

-- and the patches that take it back fit
pub back_fits : (ps back : List Patch) (old now : Items) (h : HeldMap) → IsHeldOf old h → AllFit ps old → now ≡ image ps old → back ≡ inverses ps old → AllFit back now
back_fits ps back old now h held fit made e =
    subst (λ d. AllFit back d) (sym made) (subst (λ (qs : List Patch). AllFit qs (image ps old)) (sym e) (AllFit-inverses ps old fit (levels-few old h.top held.rows)))
