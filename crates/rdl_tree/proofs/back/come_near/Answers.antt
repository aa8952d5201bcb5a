use Rattle.rdl_tree.proofs.Gaps.{turned_round}
use Rattle.rdl_tree.proofs.back.come_near.Goals as goal

pub returns-then-number-len-clause-same : goal.returns-then-number-len-clause-same
returns-then-number-len-clause-same c =
    turned_round c.pour.new.to.items c.pour.new.from.items c.args.front.now.items c.args.behind.now.items c.pour.ensures.same
