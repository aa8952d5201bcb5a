use Rattle.std.proofs.Common.{◌≡◌, [], refl, ap, sym, ◌∙◌}
use Rattle.std.specs.Option.{ghost_name_of, option_copied_mut}
use borrow.Follows.Closed.{read_of}
use Rattle.rdl_tree.specs.Items.{Items}
use Rattle.rdl_tree.specs.Address.{body_at, map_body}
use Rattle.rdl_tree.specs.declared.description.Component.{Component}
use Rattle.rdl_tree.specs.declared.description.Description.{Description}
use Rattle.rdl_tree.proofs.Steps.{path_end, lent_some, lent_none}
use Rattle.rdl_tree.proofs.Components.{set-map_body, set_component-same, body_at-some, body_at-none}
use Rattle.rdl_tree.proofs.description.Description.body_mut.Goals as goal

pub returns-in_err-self-in-len1-up : goal.returns-in_err-self-in-len1-up
returns-in_err-self-in-len1-up c =
    let whole : Description = c.args.self.now in
    let absent = lent_none _ _ c.component_mut.follows c.in_err-self-in-len1-up.was in (
      λ j. read_of (ghost_name_of (sym c.from_residual.ensures j)) (λ (w : Items). record { items = map_body c.args.address.now (λ _. w) whole.items }) whole,
      record { writes_back = tt; value = ap option_copied_mut c.from_residual.ensures ∙ sym (ap (λ p. body_at p whole.items) (sym c.as_slice.ensures.value) ∙ body_at-none c.as_slice.result.now whole.items c.in-len1-up.len_at_least absent) },
    )

pub returns-in_ok-self-in-len1-up : goal.returns-in_ok-self-in-len1-up
returns-in_ok-self-in-len1-up c =
    let whole : Description = c.args.self.now in
    let part : Component = c.in_ok-self-in-len1-up.field-0.now in
    let found = lent_some _ _ _ c.component_mut.follows c.in_ok-self-in-len1-up.was in (
      λ j. read_of (ghost_name_of c.descend.result)
          (λ (w : Items). record { items = (set-map_body c.as_slice.result.now whole.items w part c.in-len1-up.len_at_least found ∙ ap (λ p. map_body p (λ _. w) whole.items) c.as_slice.ensures.value) j })
          (record { items = set_component-same _ whole.items part found j }),
      record { writes_back = tt; value = c.descend.ensures.value ∙ sym (ap (λ p. body_at p whole.items) (sym c.as_slice.ensures.value) ∙ body_at-some c.as_slice.result.now whole.items part c.in-len1-up.len_at_least found) },
    )

pub returns-in-empty : goal.returns-in-empty
returns-in-empty c =
    let end : c.args.address.now ≡ [] = sym c.as_slice.ensures.value ∙ path_end c.as_slice.result.now c.in-empty.len_below in
    rw end (refl, record { writes_back = tt; value = refl })
