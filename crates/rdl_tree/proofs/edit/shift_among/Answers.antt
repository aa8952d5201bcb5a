use Rattle.std.proofs.Common.{arith}
use Rattle.rdl_tree.proofs.Shifts.{shifted_down, shifted_up}
use Rattle.rdl_tree.proofs.edit.shift_among.Goals as goal

pub returns-then-from-to : goal.returns-then-from-to
returns-then-from-to c = shifted_up c.args.from c.args.to c.args.items.now c.to_end.new.items (omega arith) c.requires.to c.to_end.ensures

pub returns-else-from-to : goal.returns-else-from-to
returns-else-from-to c = shifted_down c.args.from c.args.to c.args.items.now c.from_end.new.items (omega arith) c.requires.from c.from_end.ensures
