use Rattle.rdl_tree.proofs.Gaps.{all_in_front}
use Rattle.rdl_tree.proofs.gap.Gap.close.Goals as goal

pub returns : goal.returns
returns c = all_in_front c.pour.new.to.items c.pour.new.from.items c.self.inside.front.items c.self.inside.behind.items c.args.self c.pour.ensures.left c.pour.ensures.same c.self.view_is
