use Rattle.std.proofs.Common.{◌≡◌, Some, ap, sym, ◌∙◌}
use Rattle.std.specs.Option.{option_or}
use Rattle.std.proofs.lemmas.Result.{on_ok_weaker}
use Rattle.rdl_tree.specs.Properties.{row}
use Rattle.rdl_tree.specs.declared.property.Property.{Property}
use Rattle.rdl_tree.specs.declared.property.Property.TheVariants.{Reset}
use Rattle.rdl_tree.specs.declared.value.Value.TheVariants.{Number}
use Rattle.rdl_elab.specs.Reaches.{reached, reset_value, value_under}
use Rattle.rdl_elab.specs.StatedValues.{shown_on, if_named}
use Rattle.rdl_elab.proofs.InstanceLists.{behind-reached}
use Rattle.rdl_elab.proofs.walk.values.add_replaced.Goals as goal

pub returns-in-Some : goal.returns-in-Some
returns-in-Some c =
    let k = c.args.kind in
    let old = c.args.items.now.items in
    let between = c.add_reached.new.items.items in
    let rs = c.args.reaching.now in
    on_ok_weaker c.add_stated.result
    (λ (h : (p : Property) → value_under p c.add_stated.new.items.items ≡ option_or (value_under p between) (if_named (row Reset).name (shown_on k Reset (Some (Number c.in-Some.number))) p)).
    λ p.
    h p
    ∙ behind-reached k p c.in-Some.number rs (value_under p old) (value_under p between) (c.in_ok-add_reached.ensures p)
    ∙ ap (λ o. option_or (value_under p old) (shown_on k p (option_or (reached (row p).name rs) (reset_value p o)))) (sym c.in-Some.is))
    c.add_stated.ensures
