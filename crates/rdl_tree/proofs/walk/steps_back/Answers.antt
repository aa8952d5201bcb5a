use Rattle.rdl_tree.specs.Way.{none_held}
use Rattle.rdl_tree.proofs.Backs.{next_ready}
use Rattle.rdl_tree.proofs.Held.{ready_by_itself}
use Rattle.rdl_tree.proofs.Fills.{seen_steps}
use Rattle.rdl_tree.proofs.walk.steps_back.Goals as goal

pub step_back-requires-clause-ready : goal.step_back-requires-clause-ready
step_back-requires-clause-ready c =
    ready_by_itself c.in-Some.step c.steps.description.items (next_ready none_held c.steps.steps.items c.pop.new.self.items c.in-Some.step c.steps.description.items c.in-Some.ensures.items c.steps.invariant.way.ready)

pub steps-preserved : goal.steps-preserved
steps-preserved c = record {
  way = c.step_back.ensures.way _ _ (seen_steps none_held c.steps.steps.items _ c.steps.description.items _ c.steps.room.items _ c.in-Some.ensures.items c.steps.invariant.way);
  room = c.step_back.ensures.room;
}
