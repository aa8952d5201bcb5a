use Rattle.std.proofs.Common.{arith, length, ◌-◌}
use Rattle.rdl_tree.proofs.Shifts.{at_the_end}
use Rattle.rdl_tree.proofs.edit.to_end.Goals as goal

pub returns : goal.returns
returns c = at_the_end c.args.number (length c.args.items.now - c.args.number) c.args.items.now c.rotate_left.new.self c.requires (omega arith) c.rotate_left.ensures.after
