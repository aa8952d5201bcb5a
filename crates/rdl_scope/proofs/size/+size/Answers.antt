use Rattle.std.proofs.Common.{rules, subst, sym}
use Rattle.rdl_tree.specs.Items.{no_items}
use Rattle.rdl_tree.specs.View.{add}
use Rattle.rdl_scope.specs.Sizes.{IsSizeOf}
use Rattle.rdl_scope.proofs.Sizes.{count-item, size-more, size-done}
use Rattle.rdl_scope.proofs.size.+size.Goals as goal
use Rattle.rdl_scope.proofs.size.+size.Goals.{body_size-in-Some, body_size-in-None}

pub body_size-item_size-more-requires : goal.body_size-item_size-more-requires
body_size-item_size-more-requires t c =
    let few = count-item c.loop-item.item-index c.args.body.now c.as_slice-item-items.result.now c.item-item.result c.item-item.result c.as_slice-item-items.ensures c.loop-item-test.true c.item-item.is in
    search (rules, few)

pub body_size-loop-item-preserved : goal.body_size-loop-item-preserved
body_size-loop-item-preserved t c =
    let item = c.item-item.result in
    let one : IsSizeOf (add item no_items) c.match-size_if_named.more = elim c.match-size_if_named.branch [
      | body_size-in-Some w ↦ subst (IsSizeOf (add item no_items)) (sym w.more-is) w.in-Some.ensures
      | body_size-in-None w ↦ subst (IsSizeOf (add item no_items)) (sym w.more-is) w.item_size-more.ensures
    ] in
    size-more c.beside-size.result c.loop-item.size c.match-size_if_named.more c.loop-item.item-index c.as_slice-item-items.result.now item
    c.loop-item.invariant one c.beside-size.ensures.depth c.beside-size.ensures.count c.beside-size.ensures.weight c.item-item.is c.loop-item-test.true

pub body_size-returns : goal.body_size-returns
body_size-returns t c = size-done _ _ _ _ c.loop-item.invariant c.loop-item-test.false c.as_slice-item-items.ensures
