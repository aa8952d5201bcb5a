use Rattle.std.proofs.Common.{◌≡◌, ap, ◌∙◌}
use Rattle.std.specs.Option.{option_or}
use Rattle.rdl_tree.specs.Properties.{row}
use Rattle.rdl_tree.specs.declared.property.Property.{Property}
use Rattle.rdl_scope.specs.Value.{own_value}
use Rattle.rdl_scope.specs.Closed.{stated, lookup}
use Rattle.rdl_elab.specs.Shown.{bare}
use Rattle.rdl_elab.specs.Reaches.{value_under}
use Rattle.rdl_elab.specs.StatedValues.{shown_on}
use Rattle.rdl_elab.proofs.StatedLists.{shown-or, with-accesswidth}
use Rattle.rdl_elab.proofs.walk.values.stated_values.Goals as goal

pub returns : goal.returns
returns c =
    let k = c.args.kind in
    let b = c.args.own.now in
    let ds = c.args.defaults.now in
    let all : (p : Property) → value_under p c.add_to-2.new.items.items ≡ shown_on k p (stated (bare k b ds) (row p).name) =
    λ p. c.in_ok-add_to-2.ensures p
    ∙ ap (λ o. option_or o (shown_on k p (lookup (row p).name ds))) (c.in_ok-add_to.ensures p ∙ ap (λ xs. option_or (value_under p xs) (shown_on k p (own_value (row p).name b))) c.new-items.ensures.items)
    ∙ shown-or k p (own_value (row p).name b) (lookup (row p).name ds) in
    λ p. c.in_ok-add_accesswidth.ensures p ∙ with-accesswidth (bare k b ds) k c.add_to-2.new.items.items all p
