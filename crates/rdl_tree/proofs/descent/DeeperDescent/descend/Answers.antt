use Rattle.std.proofs.Common.{refl, ap, sym, ◌∙◌}
use Rattle.std.specs.Option.{ghost_name_of, option_copied_mut}
use borrow.Follows.Closed.{read_of}
use Rattle.rdl_tree.specs.Items.{Items}
use Rattle.rdl_tree.specs.Address.{map_body}
use Rattle.rdl_tree.specs.declared.description.Component.{Component}
use Rattle.rdl_tree.proofs.Steps.{path_end, lent_some, lent_none}
use Rattle.rdl_tree.proofs.Components.{set-map_body, set_component-same, body_at-some, body_at-none}
use Rattle.rdl_tree.proofs.descent.DeeperDescent.descend.Goals as goal

pub returns-in_err-component-in-len1-up : goal.returns-in_err-component-in-len1-up
returns-in_err-component-in-len1-up g c =
    let whole : Component = c.args.component.now in
    let absent = lent_none _ _ c.component_mut.follows c.in_err-component-in-len1-up.was in (
      λ j. read_of (ghost_name_of (sym c.from_residual.ensures j)) (λ (w : Items). record whole { body = map_body c.args.path.now (λ _. w) whole.body }) whole,
      record { writes_back = tt; value = ap option_copied_mut c.from_residual.ensures ∙ sym (body_at-none c.args.path.now whole.body c.in-len1-up.len_at_least absent) },
    )

pub returns-in_ok-component-in-len1-up : goal.returns-in_ok-component-in-len1-up
returns-in_ok-component-in-len1-up g c =
    let whole : Component = c.args.component.now in
    let part : Component = c.in_ok-component-in-len1-up.field-0.now in
    let found = lent_some _ _ _ c.component_mut.follows c.in_ok-component-in-len1-up.was in (
      λ j. read_of (ghost_name_of c.descend.result) (λ (w : Items). record whole { body = set-map_body c.args.path.now whole.body w part c.in-len1-up.len_at_least found j }) (record whole { body = set_component-same _ whole.body part found j }),
      record { writes_back = tt; value = c.descend.ensures.value ∙ sym (body_at-some c.args.path.now whole.body part c.in-len1-up.len_at_least found) },
    )

pub returns-in-empty : goal.returns-in-empty
returns-in-empty g c = rw (path_end c.args.path.now c.in-empty.len_below) (refl, record { writes_back = tt; value = refl })
