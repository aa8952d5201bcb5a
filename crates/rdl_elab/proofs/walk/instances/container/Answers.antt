use Rattle.std.proofs.Common.{sym, subst, ◌∙◌, map, refl}
use Rattle.std.specs.Prelude.{IfSome}
use Rattle.rdl_elab.specs.AlikeParts.{AreAlike}
use Rattle.rdl_elab.specs.Inside.{shown_placement, kept_parts}
use Rattle.rdl_elab.specs.Placing.{with_behind}
use Rattle.rdl_elab.proofs.Counting.{container-taken}
use Rattle.rdl_elab.proofs.Insides.{placed-all}
use Rattle.rdl_elab.proofs.PlacedParts.{one-placed}
use Rattle.rdl_elab.proofs.walk.instances.container.Goals as goal

pub loop-part-preserved : goal.loop-part-preserved
loop-part-preserved c =
    let m = c.args.mode in
    let fs = c.args.components.now in
    let old = c.loop-part.placing in
    let new = c.put_next.new.placing in
    let inv = c.loop-part.invariant in
    record {
      around = c.put_next.ensures.alignment ∙ inv.around;
      inside = c.put_next.ensures.mode ∙ inv.inside;
      known = subst (λ a. IfSome c.put_next.new.known (AreAlike a m fs)) (sym c.put_next.ensures.alignment) c.put_next.ensures.known;
      left = one-placed m fs c.loop-part.part-index c.args.parts.now c.part-item.result (λ xs. with_behind old xs) (λ xs. with_behind new xs) _ c.loop-part-test.true c.part-item.is c.in_ok-put_next.ensures.one inv.left;
    }

pub returns : goal.returns
returns c =
    let xs = kept_parts c.args.mode c.args.components.now c.args.parts.now in
    c.layout.ensures ∙ placed-all (λ ps. with_behind c.loop-part.placing ps) c.args.mode c.args.components.now c.loop-part.part-index c.args.parts.now _ c.loop-part-test.false c.loop-part.invariant.left
    ∙ container-taken c.args.values c.args.mode xs (map shown_placement xs) refl
