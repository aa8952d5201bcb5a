use Rattle.rdl_tree.proofs.Rounds.{weight_done}
use Rattle.rdl_tree.proofs.description.+weigh.Goals as goal

pub Body::weight-returns : goal.Body::weight-returns
Body::weight-returns t c = weight_done _ _ _ _ _ c.loop-item.invariant c.loop-item-test.false c.deref-item-items.ensures.value c.self.view_is
