use Rattle.std.proofs.Common.{◌≡◌, List, ap, ◌∙◌}
use Rattle.std.proofs.lemmas.Result.{IfOk-weaker}
use Rattle.std.specs.Option.{option_or}
use Rattle.rdl_tree.specs.Properties.{row}
use Rattle.rdl_tree.specs.declared.property.Property.{Property}
use Rattle.rdl_elab.specs.declared.row.PropertyValue.{PropertyValue}
use Rattle.rdl_elab.specs.InstanceValues.{instance_values}
use Rattle.rdl_elab.specs.Reaches.{reached, reset_value, value_under, values_along}
use Rattle.rdl_elab.specs.StatedValues.{shown_on}
use Rattle.rdl_elab.proofs.InstanceLists.{along-instance}
use Rattle.rdl_elab.proofs.walk.values.row_values.Goals as goal

pub returns : goal.returns
returns c =
    let k = c.args.kind in
    let values = c.add_replaced.new.items.items in
    let all : (p : Property) → value_under p values ≡ shown_on k p (option_or (reached (row p).name c.args.reaching.now) (reset_value p c.args.reset)) =
    λ p. c.in_ok-add_replaced.ensures p
    ∙ ap (λ (xs : List PropertyValue). option_or (value_under p xs) (shown_on k p (option_or (reached (row p).name c.args.reaching.now) (reset_value p c.args.reset)))) c.in_ok-items.ensures.items in
    IfOk-weaker c.with_assigned.result
    (λ made. made ≡ instance_values k values c.in_ok-own.own)
    (λ made. made ≡ values_along k c.args.reset c.args.reaching.now c.args.own.now)
    (λ made e.
    e
    ∙ ap (λ (own : List PropertyValue). instance_values k values own) c.in_ok-own.ensures
    ∙ along-instance k c.args.reset c.args.reaching.now c.args.own.now values all)
    c.with_assigned.ensures
