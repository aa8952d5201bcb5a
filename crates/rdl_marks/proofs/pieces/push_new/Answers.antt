use Rattle.rdl_marks.proofs.Cuts.{new_put}
use Rattle.rdl_marks.proofs.pieces.push_new.Goals as goal

pub returns-clause-put : goal.returns-clause-put
returns-clause-put c = new_put c.args.front.now.items c.grow_last.new.front.items c.push.new.self.items c.grow_last.result c.grow_last.ensures c.if-grow_last.false c.in_ok-push.ensures.items
