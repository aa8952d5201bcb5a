use Rattle.std.proofs.Common.{◌≡◌, List, [], refl, sym, subst, ◌∙◌}
use Rattle.rdl_scope.specs.Closed.{Head, Made, head_at, head_value}
use Rattle.rdl_elab.specs.declared.layout.LayoutValues.{LayoutValues}
use Rattle.rdl_elab.specs.Kept.{Part}
use Rattle.rdl_elab.specs.declared.walk.finished.Finished.{Finished}
use Rattle.rdl_elab.specs.Capped.{IsAlignment}
use Rattle.rdl_elab.specs.Finished.{AreParts}
use Rattle.rdl_elab.specs.Reaches.{reaches_by}
use Rattle.rdl_elab.proofs.KeptTargets.{target-same}
use Rattle.rdl_elab.proofs.Powers.{alignment-power}
use Rattle.rdl_elab.proofs.Insides.{layouts-are, levels-kept, rows-kept, empty-kept}
use Rattle.rdl_elab.proofs.walk.finished_component.Goals as goal

pub layouts-requires : goal.layouts-requires
layouts-requires c =
    let h : Head = record { at = []; kind = c.args.component.now.kind; body = c.args.component.now.body; defaults = c.args.walk.now.defaults } in
    subst (λ (v : LayoutValues). IsAlignment v.alignment) (sym (c.layout_values-values.ensures.values h (sym c.in_ok-own.ensures) refl)) (alignment-power (head_value h))

pub returns-clause-kept : goal.returns-clause-kept
returns-clause-kept c = λ e inside n same are.
    let d = c.args.description.now.items in
    let fs = c.as_slice-components.result.now in
    let ps = c.in_ok-parts.parts.items in
    let h = head_at c.args.at.now c.args.component.now.kind c.args.component.now.body e in
    let made : Made = record { head = h; parts = inside } in
    let values = c.layout_values-values.ensures.values h (sym c.in_ok-own.ensures) (sym same) in
    let moved = λ (ps : List Part) (g : ps ≡ c.args.parts.items).
    subst (λ (gs : List Finished). AreParts d gs n ps inside) (sym c.as_slice-components.ensures.value) (subst (λ (qs : List Part). AreParts d c.args.walk.now.components.items n qs inside) (sym g) are) in
    record {
      kind = refl;
      values = values;
      shown = c.in_ok-shown.ensures.values h refl (sym c.in_ok-own.ensures) (sym same ∙ sym c.layout_values-values.ensures.stays);
      assignments = λ none here.
          c.in_ok-assignments.ensures
          ∙ (λ i. reaches_by (λ k names. target-same d fs none c.args.at.now made n ps here (moved ps c.in_ok-parts.ensures) k names i) 0 c.args.component.now.body);
      layouts = layouts-are d fs n c.as_slice-2.result.now inside h c.layout_values-values.result c.in_ok-layouts.layouts values (moved c.as_slice-2.result.now (c.as_slice-2.ensures ∙ c.in_ok-parts.ensures)) c.in_ok-layouts.ensures;
      levels = c.contents_of-contents.ensures.levels ∙ levels-kept d fs n c.as_slice.result.now inside (moved c.as_slice.result.now (c.as_slice.ensures ∙ c.in_ok-parts.ensures));
      rows = c.contents_of-contents.ensures.rows ∙ rows-kept d fs n c.as_slice.result.now inside (moved c.as_slice.result.now (c.as_slice.ensures ∙ c.in_ok-parts.ensures));
      first_empty = c.in_ok-first_empty.ensures ∙ empty-kept d fs n c.as_slice-3.result.now inside (moved c.as_slice-3.result.now (c.as_slice-3.ensures ∙ c.in_ok-parts.ensures));
    }
