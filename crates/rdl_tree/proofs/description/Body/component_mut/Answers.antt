use Rattle.std.proofs.Common.{ap, sym, ◌∙◌}
use Rattle.std.specs.Prelude.{option_and_then}
use Rattle.std.specs.Option.{ghost_name_of, option_copied_mut}
use borrow.Follows.Closed.{read_of}
use Rattle.rdl_tree.specs.Component.{own_component, set_component}
use Rattle.rdl_tree.specs.declared.description.Component.{Component}
use Rattle.rdl_tree.proofs.Steps.{lent_some, lent_none}
use Rattle.rdl_tree.proofs.Components.{set_component_in, set_same, component_at-slice_get}
use Rattle.rdl_tree.proofs.description.Body.component_mut.Goals as goal

pub returns-in_err-item_mut : goal.returns-in_err-item_mut
returns-in_err-item_mut c = (
  λ j. read_of (ghost_name_of (sym c.from_residual.ensures j)) (λ (w : Component). set_component c.args.number w c.args.self.now) c.args.self.now,
  record {
    writes_back = tt;
    value = ap option_copied_mut c.from_residual.ensures ∙ sym (component_at-slice_get c.args.number c.args.self.now ∙ ap (option_and_then own_component) (lent_none _ _ c.item_mut.follows c.in_err-item_mut.was));
  },
)

pub returns : goal.returns
returns c =
    let found = lent_some _ _ _ c.item_mut.follows c.in_ok-item_mut.was in (
      λ j. read_of (ghost_name_of c.component_mut.result) (λ (w : Component). set_component_in w c.args.number c.args.self.now c.in_ok-item_mut.field-0.now found j) (set_same c.args.number c.args.self.now c.in_ok-item_mut.field-0.now found j),
      record { writes_back = tt; value = c.component_mut.ensures.value ∙ sym (component_at-slice_get c.args.number c.args.self.now ∙ ap (option_and_then own_component) found) },
    )
