use Rattle.std.proofs.Common.{◌+◌, ◌*◌, ◌<◌, length, drop, ap, sym, ◌∙◌, arith, rules}
use Rattle.std.proofs.lemmas.List.{take_all}
use Rattle.rdl_scope.proofs.Sizes.{count-item}
use Rattle.rdl_tree.proofs.Sizes.{item_count}
use Rattle.rdl_tree.specs.View.{items_of}
use Rattle.rdl_seen.specs.Node.{walked}
use Rattle.rdl_nodes.specs.HeldAround.{around_of}
use Rattle.rdl_nodes.specs.HeldWalked.{behind}
use Rattle.rdl_nodes.proofs.Bodies.{items_all, items_at, items_past}
use Rattle.rdl_nodes.proofs.Walks.{behind_more, front_stays, onto_none}
use Rattle.rdl_nodes.proofs.walk.+walk.Goals as goal

pub walk-loop-item-init : goal.walk-loop-item-init
walk-loop-item-init g t c =
    let lay = g.L.Lays.laying in
    let a = around_of c.args.around.now in
    let types = c.args.around.now.types.list.items in
    let all = items_all c.as_slice-item-items.result.now c.args.body.now c.as_slice-item-items.ensures in
    record {
      walked = λ i. behind (sym c.in_ok-slots.ensures.items i) (walked lay a (sym c.new-instances.ensures i) (sym all i));
      types = take_all (length types) types (omega arith);
    }

pub walk-loop-item-preserved : goal.walk-loop-item-preserved
walk-loop-item-preserved g t c =
    let lay = g.L.Lays.laying in
    let a = around_of c.loop-item.around in
    let b = around_of c.walk_item.new.around in
    let xs = c.as_slice-item-items.result.now in
    let n = c.loop-item.item-index in
    let before = c.loop-item.slots.items in
    let rest = items_of (drop (n + 1) xs) in
    let here = items_at xs n c.item-item.result c.loop-item-test.true c.item-item.is in
    record {
      walked = c.loop-item.invariant.walked
          ∙ ap (λ w. behind before w) (ap (walked lay a c.loop-item.instances) here ∙ c.in_ok-slot.ensures.walked rest)
          ∙ behind_more before c.push.new.self.items c.in_ok-slot.slot (walked lay b c.walk_item.new.before rest) c.in_ok-push.ensures.items;
      types = front_stays c.args.around.now.types.list.items c.loop-item.around.types.list.items c.walk_item.new.around.types.list.items c.loop-item.invariant.types c.in_ok-slot.ensures.types;
    }

pub walk-returns-clause-walked : goal.walk-returns-clause-walked
walk-returns-clause-walked g t c =
    let lay = g.L.Lays.laying in
    let a = around_of c.loop-item.around in
    let xs = c.as_slice-item-items.result.now in
    let n = c.loop-item.item-index in
    let slots = c.loop-item.slots.items in
    let done = items_past xs n c.loop-item-test.false in
    sym (
    c.loop-item.invariant.walked
    ∙ ap (λ t. behind slots (walked lay a c.loop-item.instances t)) done
    ∙ (λ i. record { slots = onto_none slots i; instances = c.loop-item.instances })
    )

pub walk-walk_item-requires : goal.walk-walk_item-requires
walk-walk_item-requires g t c κs within =
    let few = count-item c.loop-item.item-index c.args.body.now c.as_slice-item-items.result.now c.item-item.result c.item-item.result c.as_slice-item-items.ensures c.loop-item-test.true c.item-item.is in
    let less : 4 * item_count c.item-item.result < t = omega (arith, c.decreases, few) in
    search (rules, less)
