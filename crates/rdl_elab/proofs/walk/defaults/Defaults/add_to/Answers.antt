use Rattle.std.proofs.Common.{◌≡◌, ◌-◌, ℕ, List, get_or, ap, ◌∙◌, arith, rules}
use Rattle.std.specs.Option.{option_or}
use Rattle.rdl_tree.specs.Properties.{row}
use Rattle.rdl_tree.specs.declared.value.Value.{Value}
use Rattle.rdl_scope.specs.Closed.{lookup}
use Rattle.rdl_elab.specs.Reaches.{value_under}
use Rattle.rdl_elab.specs.StatedValues.{shown_on}
use Rattle.rdl_elab.proofs.DefaultStacks.{nearest}
use Rattle.rdl_elab.proofs.StatedLists.{one-nearer}
use Rattle.rdl_elab.proofs.walk.defaults.Defaults.add_to.Goals as goal

pub loop-left-preserved : goal.loop-left-preserved
loop-left-preserved c =
    let item = c.index-default.result.now in
    let xs = c.self.inside.items.items in
    let index = c.index-default.ensures in
    let is : item ≡ get_or xs (c.loop-left.left - 1) item = search rules in
    record {
      within = omega arith;
      so_far = λ p. one-nearer c.args.kind p c.loop-left.left xs item (value_under p c.args.items.now.items) (value_under p c.loop-left.items.items) (value_under p c.add_assigned.new.items.items) c.loop-left-test.true c.loop-left.invariant.within is (c.loop-left.invariant.so_far p) (c.in_ok-add_assigned.ensures item.name p c.property.ensures);
    }

pub returns : goal.returns
returns c =
    let xs = c.self.inside.items.items in
    let none_left : c.loop-left.left ≡ 0 = omega arith in
    λ p.
    c.loop-left.invariant.so_far p
    ∙ ap (λ n. option_or (value_under p c.args.items.now.items) (shown_on c.args.kind p (lookup (row p).name (nearest n xs)))) none_left
    ∙ ap (λ (ds : List (List ℕ × Value)). option_or (value_under p c.args.items.now.items) (shown_on c.args.kind p (lookup (row p).name ds))) c.self.view_is
