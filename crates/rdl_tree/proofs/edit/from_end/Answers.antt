use Rattle.std.proofs.Common.{length, ◌-◌, refl}
use Rattle.rdl_tree.proofs.Shifts.{from_the_end}
use Rattle.rdl_tree.proofs.edit.from_end.Goals as goal

pub returns : goal.returns
returns c = from_the_end c.args.number (length c.args.items.now - c.args.number) c.args.items.now c.rotate_right.new.self c.requires refl c.rotate_right.ensures.after
