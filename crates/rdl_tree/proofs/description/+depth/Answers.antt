use Rattle.std.proofs.Common.{◌∙◌, ap}
use Rattle.rdl_tree.specs.Weight.{capped}
use Rattle.rdl_tree.proofs.Sizes.{item_depth, depth_more, depth_done}
use Rattle.rdl_tree.proofs.description.+depth.Goals as goal

pub Body::depth-returns : goal.Body::depth-returns
Body::depth-returns t c = depth_done _ _ _ _ _ c.loop-item.invariant c.loop-item-test.false c.deref-item-items.ensures.value c.self.view_is

pub Body::depth-loop-item-preserved : goal.Body::depth-loop-item-preserved
Body::depth-loop-item-preserved t c = c.max-deepest.ensures ∙ depth_more c.loop-item.deepest c.depth.result c.loop-item.item-index c.deref-item-items.result.now c.item-item.result c.loop-item.invariant c.loop-item-test.true (c.depth.ensures ∙ ap (λ x. capped (item_depth x)) c.item-item.is)
