use Rattle.std.proofs.Common.{◌≡◌, List, get_or, ap, ◌∙◌, rules}
use Rattle.std.specs.Option.{option_or}
use Rattle.std.proofs.lemmas.List.{take_all}
use Rattle.rdl_tree.specs.Properties.{row, on}
use Rattle.rdl_tree.specs.Items.{Items}
use Rattle.rdl_scope.specs.Value.{own_value}
use Rattle.rdl_elab.specs.declared.walk.own_values.Assigned.{Assigned}
use Rattle.rdl_elab.specs.OwnValues.{assigned_to}
use Rattle.rdl_elab.specs.Reaches.{value_under}
use Rattle.rdl_elab.specs.StatedValues.{shown_on}
use Rattle.rdl_elab.proofs.StatedLists.{adds-none, if-none}
use Rattle.rdl_elab.proofs.OwnValues.{one-stated}
use Rattle.rdl_elab.proofs.walk.own_values.OwnValues.add_to.Goals as goal

pub loop-assigned-init : goal.loop-assigned-init
loop-assigned-init c = λ p. adds-none (value_under p c.args.items.now.items) _ (if-none (on p c.args.kind))

pub loop-assigned-preserved : goal.loop-assigned-preserved
loop-assigned-preserved c =
    let xs = c.deref-assigned-items.result.now in
    let item = c.assigned-item.result in
    let is : item ≡ get_or xs c.loop-assigned.assigned-index item = search rules in
    λ p.
    one-stated c.args.kind p c.loop-assigned.assigned-index xs item (value_under p c.args.items.now.items) (value_under p c.loop-assigned.items.items) (value_under p c.add_stated.new.items.items)
    c.loop-assigned-test.true is (c.loop-assigned.invariant p) (c.in_ok-add_stated.ensures p)

pub returns : goal.returns
returns c = λ p.
    let all = take_all c.loop-assigned.assigned-index c.deref-assigned-items.result.now c.loop-assigned-test.false in
    c.loop-assigned.invariant p
    ∙ ap (λ o. option_or (value_under p c.args.items.now.items) (shown_on c.args.kind p o))
    (ap (λ (xs : List Assigned). assigned_to p xs) (all ∙ c.deref-assigned-items.ensures.value)
    ∙ c.self.invariant.0 p
    ∙ ap (λ (t : Items). own_value (row p).name t) c.self.view_is)
