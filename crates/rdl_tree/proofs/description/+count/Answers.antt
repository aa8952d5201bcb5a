use Rattle.rdl_tree.proofs.Sizes.{count_done}
use Rattle.rdl_tree.proofs.description.+count.Goals as goal

pub Body::count-returns : goal.Body::count-returns
Body::count-returns t c = count_done _ _ _ _ _ c.loop-item.invariant c.loop-item-test.false c.deref-item-items.ensures.value c.self.view_is
