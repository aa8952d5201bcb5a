use Rattle.std.proofs.Common.{◌≡◌, List, get_or, ap, ◌∙◌, rules}
use Rattle.std.specs.Option.{option_or}
use Rattle.std.proofs.lemmas.List.{take_all}
use Rattle.rdl_tree.specs.Properties.{row, on}
use Rattle.rdl_elab.specs.Reaches.{Reach, reached, value_under}
use Rattle.rdl_elab.specs.StatedValues.{shown_on}
use Rattle.rdl_elab.proofs.StatedLists.{adds-none, if-none}
use Rattle.rdl_elab.proofs.InstanceLists.{one-reached}
use Rattle.rdl_elab.proofs.walk.reaches.add_reached.Goals as goal

pub loop-assignment-init : goal.loop-assignment-init
loop-assignment-init c = λ p. adds-none (value_under p c.args.items.now.items) _ (if-none (on p c.args.kind))

pub loop-assignment-preserved : goal.loop-assignment-preserved
loop-assignment-preserved c =
    let xs = c.args.reaching.now in
    let item = c.assignment-item.result in
    let is : item ≡ get_or xs c.loop-assignment.assignment-index item = search rules in
    λ p.
    one-reached c.args.kind p c.loop-assignment.assignment-index xs item (value_under p c.args.items.now.items) (value_under p c.loop-assignment.items.items) (value_under p c.add_come.new.items.items)
    c.loop-assignment-test.true is (c.loop-assignment.invariant p) (c.in_ok-add_come.ensures p)

pub returns : goal.returns
returns c = λ p.
    c.loop-assignment.invariant p
    ∙ ap (λ (xs : List Reach). option_or (value_under p c.args.items.now.items) (shown_on c.args.kind p (reached (row p).name xs)))
    (take_all c.loop-assignment.assignment-index c.args.reaching.now c.loop-assignment-test.false)
