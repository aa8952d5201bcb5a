use Rattle.rdl_tree.proofs.Gaps.{turned_round}
use Rattle.rdl_tree.proofs.gap.seek.Goals as goal

pub returns-else-number-len-clause-same : goal.returns-else-number-len-clause-same
returns-else-number-len-clause-same c =
    turned_round c.pour-else-number-len.new.to.items c.pour-else-number-len.new.from.items c.args.front.now.items c.args.behind.now.items c.pour-else-number-len.ensures.same
