use Rattle.rdl_held.proofs.Turns.{marks_tell}
use Rattle.rdl_held.proofs.held.Held.follow.Goals as goal

pub step-requires : goal.step-requires
step-requires c = marks_tell c.args.self.now c.args.backs.now c.args.description.now.items c.in-Ok.marks c.requires c.in-Ok.ensures
